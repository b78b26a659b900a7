use Rattle.std.proofs.Common.{ℕ, Option, refl, subst}
use Rattle.reference_step.specs.Steps.{dropped_as}
use Rattle.ref_host_calls.specs.Losses.{IsLoss, listed_at}
use Rattle.ref_guards.specs.Contents.{Nothing}
use Rattle.ref_guards.proofs.KeepLaws.{keeps-same}
use Rattle.ref_host_calls.proofs.LossLemmas.{on_map}
use Rattle.ref_host_calls.proofs.dropping.drop_live.Goals as goal

pub returns-in-Some-clause-loss : goal.returns-in-Some-clause-loss
returns-in-Some-clause-loss g c = on_map c.drop_of_kind.result _ _ (λ e f r.
    subst (λ (o : Option ℕ). IsLoss (dropped_as g.H.Host.step (listed_at r f c.args.listed.now c.args.live.now (g.H.Host.kept c.args.inner.now).state) c.args.id o) (listed_at r f c.args.listed.now c.drop_of_kind.new.live (g.H.Host.kept c.drop_of_kind.new.inner).state) (g.H.Host.kept c.args.inner.now).seen (g.H.Host.kept c.drop_of_kind.new.inner).seen) c.in-Some.ensures.value (e f r)) c.drop_of_kind.ensures.loss

pub returns-in-None-clause-keeps : goal.returns-in-None-clause-keeps
returns-in-None-clause-keeps g c = keeps-same Nothing _ _ refl
