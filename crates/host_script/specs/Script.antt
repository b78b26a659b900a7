-- What a script stands for, or the path of its first fault. It is a JSON object (RFC 8259) with the two keys `answers` and
-- `calls`, both arrays.
use Rattle.std.specs.Prelude.{ℕ, ◌≡◌, ◌+◌, ◌++◌, List, [], ◌∷◌, Bool, IsTrue, All, map, codes, Option, Some, None, option_map, option_and_then, Result, Ok, Err, if◌then◌else◌, ◌||◌}
use Rattle.std.specs.Str.{bytes_eq, is_utf8}
use Rattle.std.specs.Fmt.{decimal}
use Rattle.serde_json.specs.Read.{read}
use Rattle.serde_json.specs.Errors.{IsMemory}
use Rattle.serde_json.specs.declared.error.Error.{Error}
use Rattle.serde_json.specs.View.{view}
use Rattle.wit_types.specs.Plain.{Name, Parts, PlainFunc, plain_func}
use Rattle.wit_types.specs.PlainValue.{PlainValues, plain_values}
use Rattle.wit_types.specs.HasType.{are_of}
use Rattle.host_port.specs.Untyped.{Untyped, Items, Members, Text, Array, Object, NoItems, Item, NoMembers, Member, take_member, parts_reading}
use Rattle.host_port.specs.Scripts as port
use Rattle.host_script.specs.Json.{untyped}
use Rattle.host_script.specs.declared.fault.ScriptFault.{ScriptFault}
use Rattle.host_script.specs.declared.fault.ScriptFault.TheVariants.{BadScript, NoMemory}
use Rattle.host_script.specs.declared.script.ScriptItem.{ScriptItem}
use Rattle.host_script.specs.declared.script.ScriptItem.TheVariants.{Traps, NoValue, Value}
use Rattle.host_script.specs.declared.script.Call.{Call}
use Rattle.host_script.specs.declared.script.Script.{Script}
use Rattle.host_script.specs.declared.script.WholeScript.{WholeScript}
use Rattle.host_script.specs.declared.script.ExportType.{ExportType}

abbrev pub and_then : {A B : Type 0} → Result A ScriptFault → (A → Result B ScriptFault) → Result B ScriptFault
and_then (Ok a) next = next a
and_then (Err e) next = Err e

-- an item of the array at a path
abbrev pub nth : List ℕ → ℕ → List ℕ
nth path index = path ++ 91 ∷ (decimal index ++ 93 ∷ [])

abbrev pub or_bad : {A : Type 0} → List ℕ → Option A → Result A ScriptFault
or_bad path None = Err (BadScript path)
or_bad path (Some a) = Ok a

-- what each item of an array gives, by its place
abbrev pub each_at : {A : Type 0} → (ℕ → Untyped → Result A ScriptFault) → ℕ → Items → Result (List A) ScriptFault
each_at read index NoItems = Ok []
each_at read index (Item u us) = and_then (read index u) (λ a. and_then (each_at read (index + 1) us) (λ rest. Ok (a ∷ rest)))

-- ---- answers: `"trap"`, `{}` for a function without result, or `{"value":V}`

abbrev pub named_value : Name → Untyped → Option port.Item
named_value name u = if bytes_eq name (codes "value") then Some (port.AValue u) else None

abbrev pub only_value : Members → Option port.Item
only_value NoMembers = Some port.NoValue
only_value (Member name u NoMembers) = named_value name u
only_value (Member _ _ (Member _ _ _)) = None

abbrev pub item_in : Untyped → Option port.Item
item_in (Text word) = if bytes_eq word (codes "trap") then Some port.Traps else None
item_in (Object members) = only_value members
item_in _ = None

abbrev pub answer_at : ℕ → Untyped → Result port.Item ScriptFault
answer_at index u = or_bad (nth (codes "answers") index) (item_in u)

-- ---- calls: `[NAME,[V, ..]]`, with a value for each parameter

-- a call: the function's name, and its arguments
abbrev pub PlainCall : Type 0
PlainCall = Name × PlainValues

-- functions that can be called, by their names
abbrev pub Exports : Type 0
Exports = List (Name × PlainFunc)

-- the parameters of the first function with a name
abbrev pub params_named : Name → Exports → Option Parts
params_named name [] = None
params_named name (e ∷ es) = if bytes_eq e.0 name then Some e.1.params else params_named name es

abbrev pub call_of : Name → Items → Option Parts → Option PlainCall
call_of name args None = None
call_of name args (Some params) = option_map (λ values. (name, values)) (parts_reading params args)

abbrev pub text_of : Untyped → Option Name
text_of (Text bytes) = Some bytes
text_of _ = None

abbrev pub items_of : Untyped → Option Items
items_of (Array items) = Some items
items_of _ = None

abbrev pub pair_of : Option Name → Option Items → Option (Name × Items)
pair_of None items = None
pair_of (Some name) None = None
pair_of (Some name) (Some items) = Some (name, items)

abbrev pub two_in : Items → Option (Name × Items)
two_in NoItems = None
two_in (Item u NoItems) = None
two_in (Item u (Item v NoItems)) = pair_of (text_of u) (items_of v)
two_in (Item u (Item v (Item _ _))) = None

abbrev pub pair_in : Untyped → Option (Name × Items)
pair_in (Array items) = two_in items
pair_in _ = None

abbrev pub call_by : Exports → Option (Name × Items) → Option PlainCall
call_by exports None = None
call_by exports (Some pair) = call_of pair.0 pair.1 (params_named pair.0 exports)

-- the arguments are of the function's parameters
pub record IsTypedCall (exports : Exports) (call : PlainCall) : Type 0 where
  pub params : Parts
  pub named : params_named call.0 exports ≡ Some params
  pub typed : IsTrue (are_of params call.1)

abbrev pub call_at : Exports → ℕ → Untyped → Result PlainCall ScriptFault
call_at exports index u = or_bad (nth (codes "calls") index) (call_by exports (pair_in u))

-- ---- the whole

pub record PlainScript : Type 0 where
  pub answers : port.Script
  pub calls : List PlainCall

abbrev pub is_known : Name → Bool
is_known key = bytes_eq key (codes "answers") || bytes_eq key (codes "calls")

-- the first key that is not known: members stand in byte order
abbrev pub first_unknown : Members → Option Name
first_unknown NoMembers = None
first_unknown (Member key u rest) = if is_known key then first_unknown rest else Some key

abbrev pub unless_bad : Option Name → Result (Unit {0}) ScriptFault
unless_bad None = Ok tt
unless_bad (Some path) = Err (BadScript path)

abbrev pub value_at : Name → Members → Option Untyped
value_at key members = option_map (λ found. found.0) (take_member key members)

abbrev pub array_in : Name → Option Untyped → Result Items ScriptFault
array_in key None = Err (BadScript key)
array_in key (Some u) = or_bad key (items_of u)

-- the answers first, and then the calls
abbrev pub made_of : Exports → Items → Items → Result PlainScript ScriptFault
made_of exports answers calls = and_then (each_at answer_at 0 answers)
    (λ items. and_then (each_at (call_at exports) 0 calls)
    (λ made. Ok (record { answers = items; calls = made })))

abbrev pub script_in : Exports → Members → Result PlainScript ScriptFault
script_in exports members = and_then (unless_bad (first_unknown members))
    (λ _. and_then (array_in (codes "answers") (value_at (codes "answers") members))
    (λ answers. and_then (array_in (codes "calls") (value_at (codes "calls") members))
    (λ calls. made_of exports answers calls)))

abbrev pub script_of : Exports → Untyped → Result PlainScript ScriptFault
script_of exports (Object members) = script_in exports members
script_of exports _ = Err (BadScript [])

-- the JSON that bytes in UTF-8 are
abbrev pub json_in : List ℕ → Option Untyped
json_in bytes = if is_utf8 bytes then option_map untyped (read bytes) else None

-- of bytes that are no JSON, or what their value gives
abbrev pub due_script : Exports → Option Untyped → Result PlainScript ScriptFault
due_script exports None = Err (BadScript [])
due_script exports (Some u) = script_of exports u

-- ---- how the code's values are seen, and what calls answer

abbrev pub item_or_trap : Option port.Item → port.Item
item_or_trap None = port.Traps
item_or_trap (Some item) = item

-- the answer that a text is
unfoldable pub item_seen : List ℕ → port.Item
item_seen text = item_or_trap (option_and_then item_in (json_in text))

abbrev pub call_seen : Call → PlainCall
call_seen c = (c.name, plain_values c.args)

abbrev pub script_seen : Script → PlainScript
script_seen s = record { answers = map item_seen s.answers; calls = map call_seen s.calls }

abbrev pub exports_seen : List ExportType → Exports
exports_seen exports = map (λ e. (e.name, plain_func e.ty)) exports

-- each call's arguments are of its function's parameters
abbrev pub AreTyped : Exports → List Call → Type 0
AreTyped exports calls = All (λ c. IsTypedCall exports (call_seen c)) calls

-- the call gives what is due, unless memory ran out
abbrev pub Gives : {A B : Type 0} → (A → B) → Result B ScriptFault → Result A ScriptFault → Type 0
Gives seen due (Ok a) = due ≡ Ok (seen a)
Gives seen due (Err NoMemory) = Unit {0}
Gives seen due (Err e) = due ≡ Err e

abbrev pub Finds : {A B : Type 0} → (A → B) → Option B → Option A → Type 0
Finds seen due None = due ≡ None
Finds seen due (Some a) = due ≡ Some (seen a)

-- ---- for private clauses

abbrev pub item_read : ScriptItem → port.Item
item_read Traps = port.Traps
item_read NoValue = port.NoValue
item_read (Value json) = port.AValue (untyped (view json))

abbrev pub whole_seen : WholeScript → PlainScript
whole_seen s = record { answers = map item_read s.answers; calls = map call_seen s.calls }

-- the fault at this path, unless memory ran out
abbrev pub IsBad : List ℕ → ScriptFault → Type 0
IsBad path (BadScript kept) = kept ≡ path
IsBad path NoMemory = Unit {0}

-- the bytes are no JSON, unless memory ran out
abbrev pub IsNoJson : Error → ScriptFault → Type 0
IsNoJson e (BadScript path) = (IsMemory e → ⊥) × (path ≡ [])
IsNoJson e NoMemory = Unit {0}
