-- A call of the host's function by core code of an adapter's instance (Component Model, CanonicalABI.md, `canon_lower`).
use Rattle.std.specs.Prelude.{◌≡◌, ℕ, ◌+◌, ◌≤◌, List, [], map, length, Option, Some, None, true, false, slice_index}
use Rattle.core_store.specs.State.{State as StoreState}
use Rattle.core_store.specs.Words.{values_in}
use Rattle.wit_types.specs.Layout.{alignment, size}
use Rattle.wit_types.specs.Plain.{Name, PlainFunc}
use Rattle.wit_types.specs.PlainValue.{PlainValue}
use Rattle.abi_layout.specs.Functions.{core_params, lowered}
use Rattle.abi_layout.specs.Handles.{handles, renumbered}
use Rattle.abi_layout.specs.Loading.{is_aligned}
use Rattle.abi_layout.specs.Storing.{Lowered}
use Rattle.handle_space.specs.HandleMap.{HandleMap, Answered}
use Rattle.adapter_transfer.specs.Transfer.{IsRealloc}
use Rattle.core_store.specs.declared.value.CoreValue.{CoreValue}
use Rattle.comp_types.specs.Substitution.{func_with}
use Rattle.host_port.specs.Calls.{PlainAnswer, PlainObservation, Gives, Trap, Ended, Bad}
use Rattle.host_port.specs.Hosts.{HostStep, Reaction}
use Rattle.comp_worlds.specs.Acts.{Out, Trapped, ScriptEnded, BadAnswer, End, Next, Over}
use Rattle.comp_worlds.specs.Calls.{calls}
use Rattle.comp_worlds.specs.Groups.{Endless, Import, Theirs, Group, Config, World}
use Rattle.comp_worlds.specs.Hosts.{call_of, hosted}
use Rattle.comp_worlds.specs.Passing.{blank, in_tuple}
use Rattle.comp_frames.specs.Running.{running}
use Rattle.row_runs.specs.Passing.{params_tuple, answer_tuple, named_in, lends, adds, lift_words, lower_result, spills_over}
use Rattle.row_runs.specs.Stored.{Stored, flat_word, stored_in}
use Rattle.adapter_calls.specs.Handling.{map_to, AreOwned}
use Rattle.adapter_calls.specs.Instance.{standing}
use Rattle.adapter_calls.specs.Lending.{AreBorrowed}
use Rattle.adapter_calls.specs.Lifting.{AreOwn}
use Rattle.adapter_calls.specs.Storing.{Area, HasRoom, SameBut, CanAskAll, cost, options_of}

-- the import, whose type is by the group's numbers
abbrev pub import_of : (ℕ → ℕ) → Name → Name → PlainFunc → Import
import_of to interface function ty = record { interface = interface; function = function; ty = func_with to ty }

-- what the host does, asked with what the handles of these arguments stand for
abbrev pub reaction : {S : Type 0} → HostStep S → Import → PlainFunc → S → PlainValue → List ℕ → Reaction S
reaction h import ty s v ids = h.call s (call_of import (record { value = blank (params_tuple ty) v; reps = ids }))

-- the answer, with the indexes of its handles
abbrev pub low_answer : PlainFunc → PlainValue → List ℕ → Lowered
low_answer ty x indexes = lower_result (answer_tuple ty) (renumbered (answer_tuple ty) (blank (answer_tuple ty) x) indexes)

-- the place for an answer that goes through memory
abbrev pub place_of : PlainFunc → List ℕ → ℕ
place_of ty args = slice_index args (length (core_params ty))

-- where the answer goes through memory, that place is aligned and within the memory
pub record HasPlace (ty : PlainFunc) (args memory : List ℕ) : Type 0 where
  pub aligned : spills_over 1 (answer_tuple ty) ≡ true → is_aligned (place_of ty args) (alignment (answer_tuple ty)) ≡ true
  pub within : spills_over 1 (answer_tuple ty) ≡ true → place_of ty args + size (answer_tuple ty) ≤ length memory

module _ {S : Type 0} (h : HostStep S) (G : Group) (instance : ℕ) (to : ℕ → ℕ) (p : Area) (import : Import) (ty : PlainFunc) (args : List ℕ) (w : World S) (c : Config ℕ) (s : S) where
  abbrev pub asking : ℕ → Out (World S) (List CoreValue)
  asking n = calls G (hosted h) (running G (hosted h)) Endless instance (Theirs import) (options_of p) args (standing w instance c s) n

  -- the run ends
  pub record EndsHere (seen : List PlainObservation) (last : End) : Type 0 where
    pub steps : ℕ
    pub goes : (n : ℕ) → asking (steps + n) ≡ Over seen last

  -- the answer was lowered, and its handles entered
  pub record IsLowered (r : Reaction S) (low : Lowered) (left : HandleMap ℕ) (to' : Stored) : Type 0 where
    pub store : StoreState
    pub same : SameBut c.store store
    pub room : HasRoom p store to'
    pub goes : (n : ℕ) →
        asking (cost low.steps + n)
        ≡ Next r.seen n (standing w instance (record { store = store; map = map_to to left; entered = c.entered; closed = false }) r.next) (values_in 0 (lowered ty).results (map (flat_word to'.answers) low.flats))

  abbrev pub ByStored : Reaction S → Lowered → HandleMap ℕ → Option Stored → Type 0
  ByStored r low left None = EndsHere r.seen Trapped
  ByStored r low left (Some to') = IsLowered r low left to'

  abbrev pub ByAdded : Reaction S → PlainValue → Stored → Option (Answered ℕ (List ℕ)) → Type 0
  ByAdded r x now None = EndsHere r.seen Trapped
  ByAdded r x now (Some a) = CanAskAll (low_answer ty x a.answer).steps → ByStored r (low_answer ty x a.answer) a.map (stored_in p.layout (place_of ty args) now (low_answer ty x a.answer).steps)

  abbrev pub ByAnswer : Reaction S → HandleMap ℕ → Stored → PlainAnswer → Type 0
  ByAnswer r table now (Gives value) = ByAdded r (in_tuple value) now (adds (named_in (handles (answer_tuple ty) (in_tuple value))) table)
  ByAnswer r table now Trap = EndsHere r.seen Trapped
  ByAnswer r table now Ended = EndsHere r.seen ScriptEnded
  ByAnswer r table now Bad = EndsHere r.seen BadAnswer

  abbrev pub ByLent : HandleMap ℕ → Stored → PlainValue → Option (List ℕ) → Type 0
  ByLent table now v None = EndsHere [] Trapped
  ByLent table now v (Some ids) = ByAnswer (reaction h import ty s v ids) table now (reaction h import ty s v ids).answer

  abbrev pub ByLifted : HandleMap ℕ → Stored → Option PlainValue → Type 0
  ByLifted table now None = EndsHere [] Trapped
  ByLifted table now (Some v) = ByLent table now v (lends (named_in (handles (params_tuple ty) v)) table)

-- It is lifted, lent, asked, and its answer enters and is lowered, as the row's run says. A request takes twenty steps, and all else none.
abbrev pub HostsAnswer : {S : Type 0} → HostStep S → Type 0
HostsAnswer {S} h =
    (G : Group) (instance : ℕ) (to : ℕ → ℕ) → ((r s : ℕ) → to r ≡ to s → r ≡ s) → (p : Area) → IsRealloc p.layout p.body → (interface function : Name) (ty : PlainFunc) (args : List ℕ) →
    ((v : PlainValue) → AreBorrowed (named_in (handles (params_tuple ty) v))) → ((v : PlainValue) → AreOwn (named_in (handles (answer_tuple ty) v))) →
    (w : World S) (c : Config ℕ) (s : S) (table : HandleMap ℕ) (now : Stored) → c.closed ≡ false → c.map ≡ map_to to table → AreOwned table.entries → now.answers ≡ [] → HasRoom p c.store now → HasPlace ty args now.memory →
    ByLifted h G instance to p (import_of to interface function ty) ty args w c s table now (lift_words 16 (params_tuple ty) now.memory args)
