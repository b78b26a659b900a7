use Rattle.std.proofs.Common.{Ok, subst}
use Rattle.comp_calls.specs.Moments.{at}
use Rattle.call_moments.specs.Canonical.{GoesToPause}
use Rattle.call_moments.proofs.Outer.{went_nowhere, went_further, went_to_end, went_wrong}
use Rattle.comp_calls.proofs.world.World.go_on.Goals as goal

pub pauses-init : goal.pauses-init
pauses-init g c = went_nowhere g.H.Host.step (at g.H.Host.kept c.args.self.now)

pub pauses-preserved : goal.pauses-preserved
pauses-preserved g c =
    let now = at g.H.Host.kept c.pauses.self in
    let new = at g.H.Host.kept c.go_to_pause.new.self in
    went_further g.H.Host.step (at g.H.Host.kept c.args.self.now) now new c.pauses.invariant (subst (λ f. GoesToPause g.H.Host.step now (Ok f) new) c.in_default.is c.in_ok-value.ensures.leads)

pub returns-in_err-value : goal.returns-in_err-value
returns-in_err-value g c = record {
  ends =
      went_wrong g.H.Host.step (at g.H.Host.kept c.args.self.now) (at g.H.Host.kept c.pauses.self) (at g.H.Host.kept c.go_to_pause.new.self) c.in_err-value.field-0.0 c.from_residual.result c.pauses.invariant c.in_err-value.ensures.leads
      c.from_residual.ensures.1;
}

pub returns-in-Done : goal.returns-in-Done
returns-in-Done g c = record {
  ends =
      went_to_end g.H.Host.step (at g.H.Host.kept c.args.self.now) (at g.H.Host.kept c.pauses.self) (at g.H.Host.kept c.go_to_pause.new.self) c.in_ok-value.field-0 c.in-Done.value c.pauses.invariant c.in-Done.is c.in_ok-value.ensures.leads;
}
