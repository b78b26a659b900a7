-- What is in progress in memory, as the steps that it leaves.
use Rattle.std.specs.Prelude.{ℕ, ◌≡◌, ◌+◌, List, [], ◌∷◌, reverse, Option, Some, None}
use Rattle.core_memory.specs.Number.{bytes_of}
use Rattle.core_store.specs.State.{State, InMemory}
use Rattle.wit_types.specs.Plain.{Plain, Parts as PlainParts, StringType, ListType, plain}
use Rattle.wit_types.specs.PlainValue.{PlainValue, Payload, plain_value, values_of}
use Rattle.wit_types.specs.Layout.{count, discriminant_size}
use Rattle.abi_layout.specs.Loading.{payload_offset}
use Rattle.abi_layout.specs.Storing.{Base, Step, Write, Target, Lowered, stores_at, field_steps, case_steps, item_steps, on_record, on_variant, on_payload}
use Rattle.abi_store.specs.declared.work.Work.{Work}
use Rattle.abi_store.specs.declared.work.Work.TheVariants.{List as OfList, Record as OfRecord, Value as OfValue, Place as OfPlace}
use Rattle.abi_store.specs.declared.request.Flow.{Flow}
use Rattle.abi_store.specs.declared.request.Flow.TheVariants.{Goes, Asks as Ask, Trapped as Trap}
use Rattle.abi_store.specs.declared.work.Begun.{Begun}
use Rattle.abi_store.specs.declared.work.Begun.TheVariants.{Stored, Opened, Asks, Trapped}
use Rattle.abi_store.specs.declared.work.Written.{Written}
use Rattle.abi_store.specs.declared.work.Written.TheVariants.{Done, Past}
use Rattle.abi_store.specs.Parts.{parts_from}
use Rattle.abi_store.specs.Flows.{Leads, chain, none_left, refused, request_lowered}

-- Over one memory of a store steps lead where others lead over what it became, and nothing else of the store changes.
abbrev pub Took : State → State → ℕ → (ℕ → Lowered) → (ℕ → Lowered) → Type 0
Took old new memory l m = InMemory old new memory (λ before after. Leads before l after m)

abbrev pub write_at : ℕ → List ℕ → ℕ → Lowered
write_at at bytes k = record { steps = Write Target at bytes ∷ []; flats = [] }

abbrev pub work_steps : Work → ℕ → List Step
work_steps (OfList w) k = item_steps (λ x b o j. stores_at (plain w.item.value) x b o j) w.width (values_of (reverse w.left.items)) Target w.at k
work_steps (OfRecord w) k = field_steps (parts_from w.parts w.next) (values_of (reverse w.left.items)) Target w.at w.offset k
work_steps (OfValue w) k = stores_at (plain w.ty.value) (plain_value w.value) Target w.at k
work_steps (OfPlace w) k = Write Target w.at (bytes_of 4 w.place) ∷ Write Target (w.at + 4) (bytes_of 4 w.len) ∷ []

abbrev pub work_lowered : Work → ℕ → Lowered
work_lowered work k = record { steps = work_steps work k; flats = [] }

-- the topmost first
abbrev pub works_lowered : List Work → ℕ → Lowered
works_lowered [] k = none_left k
works_lowered (w ∷ ws) k = chain (work_lowered w) (works_lowered ws) k

abbrev pub begun_lowered : Begun → ℕ → Lowered
begun_lowered Stored = none_left
begun_lowered (Opened work) = work_lowered work
begun_lowered (Asks request) = request_lowered request
begun_lowered Trapped = refused

abbrev pub written_lowered : Written → ℕ → Lowered
written_lowered Done = none_left
written_lowered Past = refused

-- ---- values by their forms

abbrev pub value_lowered : Plain → PlainValue → ℕ → ℕ → Lowered
value_lowered ty v at k = record { steps = stores_at ty v Target at k; flats = [] }

abbrev pub text_lowered : PlainValue → ℕ → ℕ → Lowered
text_lowered v at k = record { steps = stores_at StringType v Target at k; flats = [] }

abbrev pub list_lowered : Plain → PlainValue → ℕ → ℕ → Lowered
list_lowered item v at k = record { steps = stores_at (ListType item) v Target at k; flats = [] }

abbrev pub record_lowered : PlainParts → PlainValue → ℕ → ℕ → Lowered
record_lowered fields v at k = record { steps = on_record [] (λ vs. field_steps fields vs Target at 0 k) v; flats = [] }

abbrev pub variant_lowered : PlainParts → PlainValue → ℕ → ℕ → Lowered
variant_lowered cases v at k = record {
  steps = on_variant [] (λ n payload. Write Target at (bytes_of (discriminant_size (count cases)) n) ∷ case_steps cases n payload Target (at + payload_offset cases) k) v;
  flats = [];
}

-- a payload of the type, if there is one
abbrev pub payload_steps : Option Plain → Payload → Base → ℕ → ℕ → List Step
payload_steps None payload base at k = []
payload_steps (Some ty) payload base at k = on_payload [] (λ v. stores_at ty v base at k) payload

abbrev pub payload_lowered : Option Plain → Payload → ℕ → ℕ → Lowered
payload_lowered ty payload at k = record { steps = payload_steps ty payload Target at k; flats = [] }

-- the place of what was stored, and its length
abbrev pub place_lowered : (at place len : ℕ) → ℕ → Lowered
place_lowered at place len k = record { steps = Write Target at (bytes_of 4 place) ∷ Write Target (at + 4) (bytes_of 4 len) ∷ []; flats = [] }

-- where nothing is asked and nothing traps, nothing is in progress
abbrev pub IsOver : Flow → List Work → Type 0
IsOver Goes works = works ≡ []
IsOver (Ask request) works = Unit {0}
IsOver Trap works = Unit {0}
