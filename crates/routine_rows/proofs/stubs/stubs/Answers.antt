use Rattle.std.proofs.Common.{sym, subst}
use Rattle.std.specs.List.{All}
use Rattle.std.proofs.lemmas.List.Elements.{All-push}
use Rattle.adapter_stubs.specs.Bodies.{IsStub}
use Rattle.routine_rows.proofs.stubs.stubs.Goals as goal

pub loop-line-preserved : goal.loop-line-preserved
loop-line-preserved c = subst (All IsStub) (sym c.in_ok-push.ensures.items) (All-push IsStub c.loop-line.all.items c.into_inner.result c.loop-line.invariant (subst IsStub (sym c.into_inner.ensures) c.in_ok-stub_of.ensures))
