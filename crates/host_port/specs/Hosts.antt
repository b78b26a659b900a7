-- What a host is: a state with a step from a state and a call to an answer and the next state, and a step from a state and a
-- drop to the next state. (The choice of this project: CanonicalABI.md leaves the host open.)
use Rattle.std.specs.Prelude.{ℕ, List, ◌++◌, IsTrue, Option, Some, None}
use Rattle.wit_types.specs.Plain.{Plain}
use Rattle.wit_types.specs.PlainValue.{PlainValue}
use Rattle.wit_types.specs.HasType.{is_of}
use Rattle.host_port.specs.declared.call.Resource.{Resource}
use Rattle.host_port.specs.Calls.{PlainCall, PlainAnswer, PlainObservation, Gives, Trap, Ended, Bad}

-- what a call does: what is seen of it, its answer, and the next state
pub record Reaction (S : Type 0) : Type 0 where
  pub seen : List PlainObservation
  pub answer : PlainAnswer
  pub next : S

-- what the drop of a handle does: what is seen of it, and the next state
pub record Loss (S : Type 0) : Type 0 where
  pub seen : List PlainObservation
  pub next : S

pub record HostStep (S : Type 0) : Type 0 where
  pub call : S → PlainCall → Reaction S
  pub drop : S → Resource → ℕ → Loss S

-- a state of a host, with what was seen until then
pub record Kept (S : Type 0) : Type 0 where
  pub state : S
  pub seen : List PlainObservation

module _ {S : Type 0} (h : HostStep S) where
  abbrev pub answer_of : Kept S → PlainCall → PlainAnswer
  answer_of k c = (h.call k.state c).answer

  -- after a call
  abbrev pub reacts : Kept S → PlainCall → Kept S
  reacts k c = record { state = (h.call k.state c).next; seen = k.seen ++ (h.call k.state c).seen }

  -- after the drop of a handle
  abbrev pub drops : Kept S → Resource → ℕ → Kept S
  drops k resource id = record { state = (h.drop k.state resource id).next; seen = k.seen ++ (h.drop k.state resource id).seen }

-- a value is of the type, and there is one exactly where there is a type
abbrev pub IsResult : Option Plain → Option PlainValue → Type 0
IsResult None None = Unit {0}
IsResult None (Some value) = ⊥
IsResult (Some ty) None = ⊥
IsResult (Some ty) (Some value) = IsTrue (is_of ty value)

-- an answer that a call with this result type may have
abbrev pub IsAnswerTo : Option Plain → PlainAnswer → Type 0
IsAnswerTo ty (Gives value) = IsResult ty value
IsAnswerTo ty Trap = Unit {0}
IsAnswerTo ty Ended = Unit {0}
IsAnswerTo ty Bad = Unit {0}

-- each answer is one that its call may have
abbrev pub IsTyped : {S : Type 0} → HostStep S → Type 0
IsTyped {S} h = (s : S) (c : PlainCall) → IsAnswerTo c.answer (h.call s c).answer
