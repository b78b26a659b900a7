use Rattle.std.proofs.Common.{◌≡◌, refl, ap, ◌∙◌}
use Rattle.host_port.specs.Calls.{plain_answer, plain_call}
use Rattle.host_port.specs.Hosts.{Kept, answer_of, reacts}
use Rattle.reference_step.specs.State.{Reference}
use Rattle.reference_step.specs.Steps.{reference_step}
use Rattle.reference_host.specs.States.{reference_of}
use Rattle.reference_host.specs.Hosts.{kept_by}
use Rattle.reference_host.proofs.HostLemmas.{answers_as, next_as}
use Rattle.reference_host.proofs.host.ReferencedHost.call.Goals as goal

pub returns-clause-answer : goal.returns-clause-answer
returns-clause-answer g c =
    let kept : Kept (Reference g.H.Host.State) = record { state = reference_of c.self.inside.state (g.H.Host.kept c.self.inside.inner).state; seen = (g.H.Host.kept c.self.inside.inner).seen } in
    let same : kept ≡ kept_by g.H.Host.kept c.args.self.now = ap (kept_by g.H.Host.kept) c.self.view_is in
    answers_as g.H.Host.step kept (plain_call c.args.call) (plain_answer c.in_ok-answer.answer) _ _ c.in_ok-answer.ensures.reaction
    ∙ ap (λ (k : Kept (Reference g.H.Host.State)). answer_of (reference_step g.H.Host.step) k (plain_call c.args.call)) same

pub returns-clause-next : goal.returns-clause-next
returns-clause-next g c =
    let kept : Kept (Reference g.H.Host.State) = record { state = reference_of c.self.inside.state (g.H.Host.kept c.self.inside.inner).state; seen = (g.H.Host.kept c.self.inside.inner).seen } in
    let same : kept ≡ kept_by g.H.Host.kept c.args.self.now = ap (kept_by g.H.Host.kept) c.self.view_is in
    next_as g.H.Host.step kept (plain_call c.args.call) (plain_answer c.in_ok-answer.answer) _ _ _ refl c.in_ok-answer.ensures.reaction
    ∙ ap (λ (k : Kept (Reference g.H.Host.State)). reacts (reference_step g.H.Host.step) k (plain_call c.args.call)) same
