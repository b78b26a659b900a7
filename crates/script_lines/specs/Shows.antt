-- Words of private clauses on what is written.
use Rattle.std.specs.Prelude.{ℕ, zero, suc, pos, Option, Some, None, Bool, if◌then◌else◌}
use Rattle.serde_json.specs.Data.{Data, null, string, Items, no_items, item}
use Rattle.wit_types.specs.Plain.{Name, Plain}
use Rattle.wit_types.specs.PlainValue.{PlainValue, PlainValues, Payload, IntValue, VariantValue, End, More}
use Rattle.script_lines.specs.Shown.{shown, payload_shown, one_member}

-- the payload of a case, by its type if it has one
abbrev pub payload_shown_by : Option Plain → Payload → Data
payload_shown_by None p = null
payload_shown_by (Some ty) p = payload_shown (λ v. shown ty v) p

abbrev pub value_count : PlainValues → ℕ
value_count End = 0
value_count (More v vs) = suc (value_count vs)

-- the value at a place; past the end any
abbrev pub value_at : ℕ → PlainValues → PlainValue
value_at n End = IntValue (pos 0)
value_at zero (More v vs) = v
value_at (suc n) (More v vs) = value_at n vs

-- the values from a place on
abbrev pub values_from : ℕ → PlainValues → PlainValues
values_from zero vs = vs
values_from (suc n) End = End
values_from (suc n) (More v vs) = values_from n vs

abbrev pub items_then : Items → Items → Items
items_then no_items more = more
items_then (item d ds) more = item d (items_then ds more)

abbrev pub label_if : Bool → Name → Items
label_if is_set label = if is_set then item (string label) no_items else no_items

abbrev pub case_number : PlainValue → Option ℕ
case_number (VariantValue n p) = Some n
case_number _ = None

-- a case of a result with its payload
abbrev pub end_shown : Name → Option Plain → PlainValue → Data
end_shown name ty (VariantValue n p) = one_member name (payload_shown_by ty p)
end_shown name ty _ = null
