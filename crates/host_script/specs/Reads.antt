-- What a call that reads a value answers.
use Rattle.std.specs.Prelude.{ℕ, ◌≡◌, Bool, false, if◌then◌else◌, List, Result, Ok, Err, Option, Some, None}
use Rattle.std.specs.Str.{bytes_eq}
use Rattle.wit_types.specs.Plain.{Name, Plain}
use Rattle.wit_types.specs.PlainValue.{Payload}
use Rattle.host_port.specs.Untyped.{Untyped, Items, NoItems, Item, Members, Text, Object, NoMembers, Member, reading, nothing_in, payload_in}
use Rattle.host_script.specs.declared.values_fault.ReadValueFault.{ReadValueFault}
use Rattle.host_script.specs.declared.values_fault.ReadValueFault.TheVariants.{NotOfType, NoMemory}

-- the call gives what there is, or says that there is nothing, unless memory ran out
abbrev pub Gives : {A B : Type 0} → (A → B) → Option B → Result A ReadValueFault → Type 0
Gives seen due (Ok a) = due ≡ Some (seen a)
Gives seen due (Err NotOfType) = due ≡ None
Gives seen due (Err NoMemory) = Unit {0}

-- ---- for private clauses

abbrev pub only_one : Members → Option (Name × Untyped)
only_one (Member name value NoMembers) = Some (name, value)
only_one _ = None

-- the only member of an object
abbrev pub member_in : Untyped → Option (Name × Untyped)
member_in (Object members) = only_one members
member_in _ = None

abbrev pub is_text : List ℕ → Untyped → Bool
is_text label (Text bytes) = bytes_eq label bytes
is_text label _ = false

-- the label stands in front
abbrev pub begins_with : List ℕ → Items → Bool
begins_with label NoItems = false
begins_with label (Item u us) = is_text label u

-- the payload of a case, by its type if it has one
abbrev pub payload_by : Option Plain → Untyped → Option Payload
payload_by None u = nothing_in u
payload_by (Some ty) u = payload_in (reading ty u)

-- the number of a result's case
abbrev pub number_of_end : Bool → ℕ
number_of_end is_ok = if is_ok then 0 else 1
