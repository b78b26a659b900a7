-- The host that answers by a script.
use Rattle.std.specs.Prelude.{ℕ, List, [], ◌∷◌, Option, Some, None}
use Rattle.wit_types.specs.Plain.{Plain}
use Rattle.wit_types.specs.PlainValue.{PlainValue}
use Rattle.host_port.specs.declared.call.Resource.{Resource}
use Rattle.host_port.specs.Calls.{PlainCall, PlainAnswer, Gives, Trap, Ended, Bad, Called, Dropped}
use Rattle.host_port.specs.Hosts.{HostStep, Reaction, Loss}
use Rattle.host_port.specs.Untyped.{Untyped, reading}

-- an item of a script: a trap, no value, or a value without its type
pub data Item : Type 0 where
  Traps : Item
  NoValue : Item
  AValue : (value : Untyped) → Item

-- a script is the items that are left
abbrev pub Script : Type 0
Script = List Item

abbrev pub read_as : Option PlainValue → PlainAnswer
read_as None = Bad
read_as (Some value) = Gives (Some value)

-- what an item answers to a call with this result type
abbrev pub item_answer : Option Plain → Item → PlainAnswer
item_answer ty Traps = Trap
item_answer None NoValue = Gives None
item_answer None (AValue value) = Bad
item_answer (Some ty) NoValue = Bad
item_answer (Some ty) (AValue value) = read_as (reading ty value)

-- A call takes the next item, and is seen.
abbrev pub script_call : Script → PlainCall → Reaction Script
script_call [] c = record { seen = Called c ∷ []; answer = Ended; next = [] }
script_call (item ∷ items) c = record { seen = Called c ∷ []; answer = item_answer c.answer item; next = items }

-- A drop takes no item, and is seen.
abbrev pub script_drop : Script → Resource → ℕ → Loss Script
script_drop items resource id = record { seen = Dropped resource id ∷ []; next = items }

unfoldable pub script : HostStep Script
script = record { call = script_call; drop = script_drop }
