-- Flat values that are still to come, with the steps after them.
use Rattle.std.specs.Prelude.{ℕ, ◌≡◌, List, [], ◌∷◌, length, map, replicate, Option, Some, None}
use Rattle.wit_types.specs.Plain.{Plain, Parts}
use Rattle.wit_types.specs.PlainValue.{PlainValue, Payload}
use Rattle.wit_types.specs.Layout.{flat_cases}
use Rattle.abi_layout.specs.Storing.{FlatItem, Number, Lowered, nothing, one_number, of_case, lower_flat, lower_fields, lower_case, on_record, on_variant, on_payload}
use Rattle.abi_store.specs.declared.slot.Slot.{Slot}
use Rattle.abi_store.specs.declared.slot.Slot.TheVariants.{Number as NumberSlot, Place as PlaceSlot}
use Rattle.abi_store.specs.declared.request.Flow.{Flow}
use Rattle.abi_store.specs.declared.request.Flow.TheVariants.{Goes, Asks, Trapped}
use Rattle.abi_store.specs.declared.content.Content.{Content}
use Rattle.abi_store.specs.declared.content.Cell.TheVariants.{Flat}
use Rattle.abi_store.specs.Rooms.{content_lowered, content_len}
use Rattle.abi_store.specs.Flows.{chain, none_left}

abbrev pub slot_lowered : Slot → ℕ → Lowered
slot_lowered (NumberSlot n) k = one_number n
slot_lowered (PlaceSlot content) k = content_lowered content Flat k

abbrev pub slots_lowered : List Slot → ℕ → Lowered
slots_lowered [] k = none_left k
slots_lowered (s ∷ ss) k = chain (slot_lowered s) (slots_lowered ss) k

-- The new flat values are the old ones, and these after them.
pub record Appends (old new : List Slot) (l : ℕ → Lowered) : Type 0 where
  pub same : (k : ℕ) → slots_lowered new k ≡ chain (slots_lowered old) l k

-- ---- values by their forms

-- the place of what is stored, and its length
abbrev pub place_flats : Content → ℕ → Lowered
place_flats content k = chain (slot_lowered (PlaceSlot content)) (λ j. one_number (content_len content)) k

abbrev pub record_flats : Parts → PlainValue → ℕ → Lowered
record_flats fields v k = on_record nothing (λ vs. lower_fields fields vs k) v

abbrev pub payload_flats : Option Plain → Payload → ℕ → Lowered
payload_flats None payload k = nothing
payload_flats (Some ty) payload k = on_payload nothing (λ v. lower_flat ty v k) payload

abbrev pub variant_flats : Parts → PlainValue → ℕ → Lowered
variant_flats cases v k = on_variant nothing (λ n payload. of_case (length (flat_cases cases)) n (lower_case cases n payload k)) v

-- zeros for the flat values that other cases have more
abbrev pub zeros : ℕ → ℕ → Lowered
zeros n k = record { steps = []; flats = replicate n (Number 0) }

-- ---- going on

-- flat values that are known
abbrev pub known : List ℕ → List FlatItem
known numbers = map Number numbers

-- where nothing is asked and nothing traps, no flat value is still to come
abbrev pub IsThrough : Flow → List Slot → Type 0
IsThrough Goes slots = slots ≡ []
IsThrough (Asks request) slots = Unit {0}
IsThrough Trapped slots = Unit {0}
