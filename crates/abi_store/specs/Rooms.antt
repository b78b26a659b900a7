-- What is asked for room for, as the steps that store it.
use Rattle.std.specs.Prelude.{ℕ, ◌+◌, ◌*◌, ◌^◌, nat_lt, nat_le, if◌then◌else◌, List, [], ◌∷◌, ◌++◌, length, Option, Some, None}
use Rattle.core_memory.specs.Number.{bytes_of}
use Rattle.wit_types.specs.Plain.{Plain, plain}
use Rattle.wit_types.specs.PlainValue.{PlainValues, plain_value, plain_values}
use Rattle.wit_types.specs.Layout.{alignment, size}
use Rattle.abi_layout.specs.Storing.{Base, Target, Answer, Step, Ask, Write, Refuse, FlatItem, Number, AnswerTo, Lowered, stores_at, item_steps, run_bytes, place_and_length, count_values}
use Rattle.abi_layout.specs.Numbers.{is_number}
use Rattle.abi_store.specs.declared.content.Content.{Content}
use Rattle.abi_store.specs.declared.content.Content.TheVariants.{Text, List as Items, Whole}
use Rattle.abi_store.specs.declared.content.Cell.{Cell}
use Rattle.abi_store.specs.declared.content.Cell.TheVariants.{Memory, Flat}

pub record Room : Type 0 where
  pub align : ℕ
  pub len : ℕ

-- the room for a string and for a list, if they aren't too long
abbrev pub room_for_bytes : List ℕ → Option Room
room_for_bytes text = if nat_le (length text) 2147483647 then Some (record { align = 1; len = length text }) else None

abbrev pub room_for_items : Plain → PlainValues → Option Room
room_for_items item vs =
    if nat_lt (count_values vs * size item) (2 ^ 32) then Some (record { align = alignment item; len = count_values vs * size item }) else None

abbrev pub room_of : Content → Option Room
room_of (Text text) = room_for_bytes text
room_of (Items list) = room_for_items (plain list.item.value) (plain_values list.values)
room_of (Whole whole) = Some (record { align = alignment (plain whole.ty.value); len = size (plain whole.ty.value) })

-- the items of a list from an offset on
abbrev pub items_from : Plain → PlainValues → Base → ℕ → ℕ → List Step
items_from item vs base at k =
    if is_number item
    then Write base at (run_bytes (size item) vs) ∷ []
    else item_steps (λ x b o j. stores_at item x b o j) (size item) vs base at k

-- what is stored from an offset on
abbrev pub content_steps : Content → Base → ℕ → ℕ → List Step
content_steps (Text text) base at k = Write base at text ∷ []
content_steps (Items list) base at k = items_from (plain list.item.value) (plain_values list.values) base at k
content_steps (Whole whole) base at k = stores_at (plain whole.ty.value) (plain_value whole.value) base at k

abbrev pub content_len : Content → ℕ
content_len (Text text) = length text
content_len (Items list) = count_values (plain_values list.values)
content_len (Whole whole) = 0

-- where the answer to a request goes, and the length
abbrev pub cell_steps : Cell → ℕ → ℕ → List Step
cell_steps (Memory at) k len = place_and_length Target at k len
cell_steps Flat k len = []

abbrev pub cell_flats : Cell → ℕ → List FlatItem
cell_flats (Memory at) k = []
cell_flats Flat k = AnswerTo k ∷ []

-- the same where the answer is known
abbrev pub cell_at : Cell → ℕ → ℕ → ℕ → Lowered
cell_at (Memory at) place len k = record { steps = Write Target at (bytes_of 4 place) ∷ Write Target (at + 4) (bytes_of 4 len) ∷ []; flats = [] }
cell_at Flat place len k = record { steps = []; flats = Number place ∷ [] }

-- after a request of this number
abbrev pub behind : Content → Cell → ℕ → List Step
behind content cell k = content_steps content (Answer k) 0 (k + 1) ++ cell_steps cell k (content_len content)

abbrev pub with_room : Option Room → List Step → List Step
with_room None steps = Refuse ∷ []
with_room (Some room) steps = Ask room.align room.len ∷ steps

-- what is stored where room is asked for first, and where its place goes
abbrev pub content_lowered : Content → Cell → ℕ → Lowered
content_lowered content cell k = record { steps = with_room (room_of content) (behind content cell k); flats = cell_flats cell k }

-- the place of memory where an answer goes, or 0
abbrev pub cell_place : Cell → ℕ
cell_place (Memory at) = at
cell_place Flat = 0
