-- The line of what is seen of a component that runs: one compact JSON array, and an LF.
use Rattle.std.specs.Prelude.{ℕ, List, [], ◌∷◌, ◌++◌, codes, Option, Some, None}
use Rattle.serde_json.specs.Data.{Data, null, number, string, array, unsigned, Items, no_items, item}
use Rattle.serde_json.specs.Written.{compact_text}
use Rattle.std.specs.Borrow.{Bor}
use Rattle.wit_types.specs.declared.types.WitType.{WitType}
use Rattle.wit_types.specs.Plain.{Plain, plain}
use Rattle.wit_types.specs.PlainValue.{PlainValue}
use Rattle.host_port.specs.Calls.{PlainObservation, Called, Dropped, Returned, Trapped, ScriptEnded, BadAnswer, Spent, TooDeep}
use Rattle.script_lines.specs.Shown.{shown, parts_shown}

-- ---- how the code's type is seen

abbrev pub type_of : Option (Bor WitType) → Option Plain
type_of None = None
type_of (Some ty) = Some (plain ty.now)

-- ---- lines

-- a returned value by its type; without a type it is null
abbrev pub value_shown : Option Plain → PlainValue → Data
value_shown None v = null
value_shown (Some ty) v = shown ty v

abbrev pub returned_shown : Option Plain → Option PlainValue → Items
returned_shown ty None = no_items
returned_shown ty (Some v) = item (value_shown ty v) no_items

-- the words of a line, where a returned value has this type
abbrev pub line : Option Plain → PlainObservation → Items
line ty (Called c) = item (string (codes "call")) (item (string c.interface) (item (string c.function) (item (array (parts_shown c.params c.args)) no_items)))
line ty (Dropped r id) = item (string (codes "drop")) (item (string r.interface) (item (string r.name) (item (number (unsigned id)) no_items)))
line ty (Returned v) = item (string (codes "return")) (returned_shown ty v)
line ty Trapped = item (string (codes "trap")) no_items
line ty ScriptEnded = item (string (codes "script-ended")) no_items
line ty BadAnswer = item (string (codes "bad-answer")) no_items
line ty Spent = item (string (codes "spent")) no_items
line ty TooDeep = item (string (codes "too-deep")) no_items

abbrev pub line_text : Option Plain → PlainObservation → List ℕ
line_text ty o = compact_text (array (line ty o)) ++ 10 ∷ []
