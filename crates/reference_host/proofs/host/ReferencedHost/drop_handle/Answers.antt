use Rattle.std.proofs.Common.{◌≡◌, refl, ap, ◌∙◌}
use Rattle.host_port.specs.Hosts.{Kept, drops}
use Rattle.reference_step.specs.State.{Reference}
use Rattle.reference_step.specs.Steps.{reference_step}
use Rattle.reference_host.specs.States.{reference_of}
use Rattle.reference_host.specs.Hosts.{kept_by}
use Rattle.reference_host.proofs.HostLemmas.{drops_as}
use Rattle.reference_host.proofs.host.ReferencedHost.drop_handle.Goals as goal

pub returns : goal.returns
returns g c =
    let kept : Kept (Reference g.H.Host.State) = record { state = reference_of c.self.inside.state (g.H.Host.kept c.self.inside.inner).state; seen = (g.H.Host.kept c.self.inside.inner).seen } in
    let same : kept ≡ kept_by g.H.Host.kept c.args.self.now = ap (kept_by g.H.Host.kept) c.self.view_is in
    drops_as g.H.Host.step kept c.args.resource.now c.args.id _ _ _ refl c.in_ok-drop_handle.ensures.loss
    ∙ ap (λ (k : Kept (Reference g.H.Host.State)). drops (reference_step g.H.Host.step) k c.args.resource.now c.args.id) same
