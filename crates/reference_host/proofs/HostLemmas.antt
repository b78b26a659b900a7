-- Reactions of the reference host as what a host does.
use Rattle.std.proofs.Common.{◌≡◌, ℕ, List, Result, Ok, Err, ap, ◌∙◌}
use Rattle.std.specs.Prelude.{IfOk}
use Rattle.host_port.specs.Calls.{PlainAnswer, PlainCall, PlainObservation}
use Rattle.host_port.specs.declared.call.Resource.{Resource}
use Rattle.host_port.specs.Hosts.{HostStep, Kept, answer_of, reacts, drops}
use Rattle.reference_step.specs.State.{Reference, Setup, opening}
use Rattle.reference_step.specs.Steps as reference
use Rattle.reference_step.specs.Steps.{reference_step}
use Rattle.ref_host_calls.specs.Losses.{IsLoss}
use Rattle.ref_host_calls.specs.Reactions.{IsReaction}
use Rattle.reference_host.specs.declared.state.State.{State}
use Rattle.reference_host.specs.States.{reference_of}

pub ok_map : {A E : Type 0} (r : Result A E) (P Q : A → Type 0) → ((x : A) → P x → Q x) → IfOk r P → IfOk r Q
ok_map (Ok x) P Q go p = go x p
ok_map (Err e) P Q go p = p

-- beside any state of the host that is asked
pub opening_over : {S : Type 0} (s : State) (setup : Setup) (inner : S) → reference_of s (tt {0}) ≡ opening setup (tt {0}) → reference_of s inner ≡ opening setup inner
opening_over s setup inner is = ap (λ (r : Reference (Unit {0})). record { setup = r.setup; live = r.live; scratch = r.scratch; inner = inner }) is

module _ {S : Type 0} (h : HostStep S) (k : Kept (Reference S)) where
  pub answers_as : (c : PlainCall) (a : PlainAnswer) (s : Reference S) (after : List PlainObservation) → IsReaction (reference.calls h k.state c) a s k.seen after → a ≡ answer_of (reference_step h) k c
  unfolding reference_step
  answers_as c a s after is = is.answer

  pub next_as : (c : PlainCall) (a : PlainAnswer) (s : Reference S) (after : List PlainObservation) (new : Kept (Reference S)) → new ≡ record { state = s; seen = after } → IsReaction (reference.calls h k.state c) a s k.seen after → new ≡ reacts (reference_step h) k c
  unfolding reference_step
  next_as c a s after new same is = same ∙ ap (λ (x : Reference S). record { state = x; seen = after }) is.next ∙ ap (λ (seen : List PlainObservation). record { state = (reference.calls h k.state c).next; seen = seen }) is.seen

  pub drops_as : (resource : Resource) (id : ℕ) (s : Reference S) (after : List PlainObservation) (new : Kept (Reference S)) → new ≡ record { state = s; seen = after } → IsLoss (reference.drops h k.state resource id) s k.seen after → new ≡ drops (reference_step h) k resource id
  unfolding reference_step
  drops_as resource id s after new same is = same ∙ ap (λ (x : Reference S). record { state = x; seen = after }) is.next ∙ ap (λ (seen : List PlainObservation). record { state = (reference.drops h k.state resource id).next; seen = seen }) is.seen
