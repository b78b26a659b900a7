-- The values that stand in a record, if there is one.
use Rattle.std.specs.Prelude.{Option, Some, None}
use Rattle.std.specs.Borrow.{Bor}
use Rattle.wit_types.specs.declared.value.Values.{Values}
use Rattle.wit_types.specs.PlainValue.{PlainValues, End, plain_values}

abbrev pub seen : Option (Bor Values) → PlainValues
seen None = End
seen (Some values) = plain_values values.now
