use Rattle.std.proofs.Common.{refl}
use Rattle.ref_host_calls.specs.Losses.{listed_at}
use Rattle.ref_guards.specs.Contents.{Nothing}
use Rattle.ref_guards.proofs.KeepLaws.{keeps-same}
use Rattle.ref_host_calls.proofs.LossLemmas.{on_map, same_kind}
use Rattle.ref_host_calls.proofs.dropping.drop_of_kind.Goals as goal

pub returns-then-handle-kind-clause-loss : goal.returns-then-handle-kind-clause-loss
returns-then-handle-kind-clause-loss g c = on_map c.lose.result _ _ (λ e f r.
    same_kind g.H.Host.step f r c.args.listed.now c.args.live.now c.args.id c.args.kind (g.H.Host.kept c.args.inner.now) c.in-Some.handle (listed_at r f c.args.listed.now c.lose.new.live (g.H.Host.kept c.lose.new.inner).state) (g.H.Host.kept c.lose.new.inner).seen c.in-Some.ensures.value c.if-handle-kind.true (e f r)) c.lose.ensures.loss

pub returns-in-None-clause-keeps : goal.returns-in-None-clause-keeps
returns-in-None-clause-keeps g c = keeps-same Nothing _ _ refl

pub returns-else-handle-kind-clause-keeps : goal.returns-else-handle-kind-clause-keeps
returns-else-handle-kind-clause-keeps g c = keeps-same Nothing _ _ refl
