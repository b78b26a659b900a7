-- How the steps of storing are taken (Component Model, CanonicalABI.md, "Storing" and "Flat Lowering"): up to a request, and on
-- with its answer, over the one memory that is stored to.
use Rattle.std.specs.Prelude.{ℕ, ◌+◌, ◌-◌, ◌%◌, ◌^◌, Bool, true, false, ◌&&◌, ◌==◌, nat_lt, nat_le, if◌then◌else◌, List, [], ◌∷◌, length, map, slice_index, Option, Some, None}
use Rattle.virt_base.specs.declared.core_type.CoreType.{CoreType}
use Rattle.virt_base.specs.declared.core_type.CoreType.TheVariants.{I32 as I32Type, I64 as I64Type, Funcref, Externref}
use Rattle.core_memory.specs.Number.{bytes_of}
use Rattle.core_memory.specs.Linear.{Linear, written}
use Rattle.core_store.specs.declared.value.CoreValue.{CoreValue}
use Rattle.core_store.specs.declared.value.CoreValue.TheVariants.{I32, I64}
use Rattle.wit_types.specs.Plain.{Plain}
use Rattle.wit_types.specs.PlainValue.{PlainValue}
use Rattle.wit_types.specs.Layout.{alignment, size, flat}
use Rattle.abi_layout.specs.Storing.{Base, Target, Answer, Step, Ask, Write, Place, Refuse, FlatItem, Number, AnswerTo, Lowered, stores, spills, lower_flat}

-- ---- steps whose places are known

-- A base where the place of the target is known, and the answers to the first requests: these count from `Target` then, and
-- requests are counted from the first that has no answer.
abbrev pub base_left : List ℕ → Base → Base
base_left answers Target = Target
base_left answers (Answer k) = if nat_lt k (length answers) then Target else Answer (k - length answers)

-- the place of such a base, or 0 where it is not known
abbrev pub place_of : ℕ → List ℕ → Base → ℕ
place_of target answers Target = target
place_of target answers (Answer k) = if nat_lt k (length answers) then slice_index answers k else 0

abbrev pub settled_step : ℕ → List ℕ → Step → Step
settled_step target answers (Ask align len) = Ask align len
settled_step target answers (Write base offset bytes) = Write (base_left answers base) (place_of target answers base + offset) bytes
settled_step target answers (Place base offset request) =
    if nat_lt request (length answers)
    then Write (base_left answers base) (place_of target answers base + offset) (bytes_of 4 (slice_index answers request))
    else Place (base_left answers base) (place_of target answers base + offset) (request - length answers)
settled_step target answers Refuse = Refuse

-- Steps where the place of the target is known, and the answers to the first requests. What counts from a known place has that
-- place as its offset, from `Target`.
abbrev pub settled : ℕ → List ℕ → List Step → List Step
settled target answers steps = map (settled_step target answers) steps

abbrev pub settled_flat : List ℕ → FlatItem → FlatItem
settled_flat answers (Number n) = Number n
settled_flat answers (AnswerTo k) = if nat_lt k (length answers) then Number (slice_index answers k) else AnswerTo (k - length answers)

abbrev pub settled_flats : List ℕ → List FlatItem → List FlatItem
settled_flats answers flats = map (settled_flat answers) flats

-- what is left where the next request has this answer
abbrev pub answered : ℕ → Lowered → Lowered
answered answer left = record { steps = settled 0 (answer ∷ []) left.steps; flats = settled_flats (answer ∷ []) left.flats }

-- ---- taking steps

-- where steps lead: to a request, with what is left after it; to the end, with the flat values; or to a trap
pub data Halt : Type 0 where
  Asks : (align len : ℕ) → (left : Lowered) → (memory : Linear) → Halt
  Ends : (flats : List FlatItem) → (memory : Linear) → Halt
  Traps : (memory : Linear) → Halt

-- that many bytes from a place on are within a memory
abbrev pub is_within : Linear → ℕ → ℕ → Bool
is_within memory place len = nat_le (place + len) (length memory.bytes)

-- A place is due from a known place alone, and that of a request without an answer is never due.
abbrev pub goes : List FlatItem → List Step → Linear → Halt
goes flats [] memory = Ends flats memory
goes flats (Ask align len ∷ steps) memory = Asks align len (record { steps = steps; flats = flats }) memory
goes flats (Write base place bytes ∷ steps) memory =
    if is_within memory place (length bytes) then goes flats steps (written memory place bytes) else Traps memory
goes flats (Place base place request ∷ steps) memory = Traps memory
goes flats (Refuse ∷ steps) memory = Traps memory

-- a place is aligned, and has room
abbrev pub is_room : Linear → (align len place : ℕ) → Bool
is_room memory align len place = (place % align == 0) && is_within memory place len

-- ---- plans

-- what is tested before all else: nothing, the place of the caller's, or the answer to a request for room
pub data Due : Type 0 where
  Nothing : Due
  Given : (place align len : ℕ) → Due
  Asked : (align len : ℕ) → Due

-- the memory is asked at the next step
abbrev pub is_due : Due → Bool
is_due Nothing = false
is_due (Given place align len) = true
is_due (Asked align len) = true

-- what is left of storing a value, and the core types of its flat values
pub record Plan : Type 0 where
  pub due : Due
  pub left : Lowered
  pub types : List CoreType

-- a plan for a place of the caller's
abbrev pub at_plan : ℕ → Plain → PlainValue → Plan
at_plan place ty v = record { due = Given place (alignment ty) (size ty); left = record { steps = settled place [] (stores ty v); flats = [] }; types = [] }

abbrev pub flat_plan : Plain → PlainValue → Plan
flat_plan ty v = record { due = Nothing; left = lower_flat ty v 0; types = flat ty }

-- a plan that asks for room first; the flat value is the place
abbrev pub spill_plan : Plain → PlainValue → Plan
spill_plan ty v = record { due = Nothing; left = record { steps = spills ty v; flats = AnswerTo 0 ∷ [] }; types = I32Type ∷ [] }

abbrev pub takes : Lowered → Linear → Halt
takes left memory = goes left.flats left.steps memory

-- what is left, where what is due has been tested
abbrev pub tested : Bool → Lowered → Linear → Halt
tested true left memory = takes left memory
tested false left memory = Traps memory

-- where a plan goes on to, with the answer to its last request
abbrev pub goes_on : Due → Lowered → Option ℕ → Linear → Halt
goes_on Nothing left answer memory = takes left memory
goes_on (Given place align len) left answer memory = tested (is_room memory align len place) left memory
goes_on (Asked align len) left None memory = Traps memory
goes_on (Asked align len) left (Some place) memory = tested (is_room memory align len place) (answered place left) memory

-- flat values as values of core types
abbrev pub number_in : FlatItem → ℕ
number_in (Number n) = n
number_in (AnswerTo k) = 0

abbrev pub core_value : CoreType → ℕ → CoreValue
core_value I64Type n = I64 n
core_value I32Type n = I32 (n % 2 ^ 32)
core_value Funcref n = I32 (n % 2 ^ 32)
core_value Externref n = I32 (n % 2 ^ 32)

abbrev pub core_values : List CoreType → List FlatItem → List CoreValue
core_values [] ns = []
core_values (t ∷ ts) [] = []
core_values (t ∷ ts) (n ∷ ns) = core_value t (number_in n) ∷ core_values ts ns
