use Rattle.std.proofs.Common.{◌≡◌, true, subst, take}
use Rattle.std.specs.List.{All}
use Rattle.std.proofs.lemmas.List.{take_all}
use Rattle.std.proofs.lemmas.List.Elements.{All-more}
use Rattle.adapter_stubs.specs.Bodies.{IsStub}
use Rattle.adapter_rows.proofs.sound.are_stubs.Goals as goal

pub loop-stub-preserved : goal.loop-stub-preserved
loop-stub-preserved c = All-more IsStub c.args.stubs.now c.loop-stub.stub-index c.stub-item.result c.loop-stub-test.true c.loop-stub.invariant (subst IsStub c.stub-item.is (c.in_ok-is_stub.ensures c.if-not-branch.false))

pub returns : goal.returns
returns c = λ _. subst (All IsStub) (take_all c.loop-stub.stub-index c.args.stubs.now c.loop-stub-test.false) c.loop-stub.invariant
