-- What is observed of groups over a host: they are made, and calls are made from outside. (This project's own.)
use Rattle.std.specs.Prelude.{◌≡◌, ℕ, List, [], ◌∷◌, Some, true}
use Rattle.wit_types.specs.Plain.{Name}
use Rattle.wit_types.specs.PlainValue.{PlainValues, RecordValue}
use Rattle.wit_types.specs.HasType.{are_of}
use Rattle.host_port.specs.Calls.{PlainObservation, Returned}
use Rattle.host_port.specs.Hosts.{HostStep}
use Rattle.comp_worlds.specs.Acts.{Out, observed_of, seen_of, IsPrefixOf, Act, ◌>>◌, gives, shows}
use Rattle.comp_worlds.specs.Passing.{Passed, out_of_tuple}
use Rattle.comp_worlds.specs.Groups.{Nesting, Endless, Nested, Target, type_of, Group, World, Due, Answer, Outside, Ports}
use Rattle.comp_worlds.specs.Calls.{below, runs, deep_enough, leaves, answers_if, group, is_made, at_rest}
use Rattle.comp_worlds.specs.Hosts.{hosted}

-- ---- groups over a host, each over those after it

abbrev pub State : List Group → Type 0 → Type 0
State [] S = S
State (G ∷ Gs) S = World (State Gs S)

abbrev pub stack : {S : Type 0} → (groups : List Group) → Ports S → Ports (State groups S)
stack [] p = p
stack (G ∷ Gs) p = group G (stack Gs p)

abbrev pub first_state : {S : Type 0} → (groups : List Group) → S → State groups S
first_state [] s = s
first_state (G ∷ Gs) s = record { configs = λ k. at_rest; below = first_state Gs s }

-- groups are made, those after first
abbrev pub are_made : {S : Type 0} → Nesting → (groups : List Group) → Ports S → Act (State groups S) (Unit {0})
are_made d [] p = gives tt
are_made d (G ∷ Gs) p = below (are_made d Gs p) >> λ _. is_made G (stack Gs p) d

-- ---- calls from outside

pub record Call : Type 0 where
  pub interface : Name
  pub function : Name
  pub args : PlainValues

-- It calls an export with arguments of its types.
abbrev pub IsCallOf : Group → Call → Type 0
IsCallOf G call = (target : Target) × (G.exports call.interface call.function ≡ Some target) × (are_of (type_of target).params call.args ≡ true)

abbrev pub AreCallsOf : Group → List Call → Type 0
AreCallsOf G [] = Unit {0}
AreCallsOf G (call ∷ rest) = IsCallOf G call × AreCallsOf G rest

-- No handle passes between a component and its outside.
abbrev pub without_handles : Call → Passed ℕ
without_handles call = record { value = RecordValue call.args; reps = [] }

module _ {S : Type 0} (G : Group) (p : Ports S) where
  abbrev pub asks_export : Nesting → Call → Act (World S) Answer
  asks_export d call = deep_enough (λ fuel. answers_if G p (runs G p fuel) d Outside (G.exports call.interface call.function) (without_handles call))

  abbrev pub leaves_export : Nesting → Due → Act (World S) (Unit {0})
  leaves_export d due = deep_enough (λ fuel. leaves G p (runs G p fuel) d due)

  abbrev pub makes_calls : Nesting → List Call → Act (World S) (Unit {0})
  makes_calls d [] = gives tt
  makes_calls d (call ∷ rest) =
      asks_export d call >> λ answer.
      leaves_export d answer.due >> λ _.
      shows (Returned (out_of_tuple answer.passed.value) ∷ []) >> λ _.
      makes_calls d rest

-- ---- observations

-- a group over others over a host, from the making on
unfoldable pub runs_calls : {S : Type 0} → Nesting → (G : Group) → (below : List Group) → HostStep S → S → List Call → ℕ → Out (State (G ∷ below) S) (Unit {0})
runs_calls d G Gs h s calls n = (are_made d (G ∷ Gs) (hosted h) >> λ _. makes_calls G (stack Gs (hosted h)) d calls) (first_state (G ∷ Gs) s) n

-- in at most n steps, without a limit on the calls in progress
abbrev pub obs : {S : Type 0} → Group → List Group → HostStep S → S → List Call → ℕ → List PlainObservation
obs G Gs h s calls n = observed_of (runs_calls Endless G Gs h s calls n)

abbrev pub seen : {S : Type 0} → Group → List Group → HostStep S → S → List Call → ℕ → List PlainObservation
seen G Gs h s calls n = seen_of (runs_calls Endless G Gs h s calls n)

-- with at most 65,536 calls in progress
abbrev pub obs_deep : {S : Type 0} → Group → List Group → HostStep S → S → List Call → ℕ → List PlainObservation
obs_deep G Gs h s calls n = observed_of (runs_calls (Nested 65536 0) G Gs h s calls n)

-- Two are seen to do the same: whatever is seen of one in some number of steps, is seen of the other in some number.
pub record SameObservations (one two : ℕ → List PlainObservation) : Type 0 where
  pub first : (n : ℕ) → (m : ℕ) × IsPrefixOf (one n) (two m)
  pub second : (n : ℕ) → (m : ℕ) × IsPrefixOf (two n) (one m)
