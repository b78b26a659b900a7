-- The row of a name among some.
use Rattle.std.specs.Prelude.{List, find}
use Rattle.std.specs.Str.{bytes_eq}
use Rattle.wit_types.specs.Plain.{Name}
use Rattle.wit_types.specs.PlainValue.{PlainValues}
use Rattle.reference_step.specs.State.{View, Row}
use Rattle.reference_step.specs.Rows.{Named, by_row}

abbrev pub found : List Named → Name → View → PlainValues → Row
found rows function v args = by_row (find (λ row. bytes_eq row.0 function) rows) v args
