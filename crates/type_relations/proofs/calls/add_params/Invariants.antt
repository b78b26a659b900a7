use Rattle.std.proofs.Common.{take}
use Rattle.wit_types.specs.Plain.{fields_of}
use Rattle.type_table.specs.Tables.{IsSound, HasParts}
use Rattle.type_relations.proofs.calls.add_params.Given as goal

abbrev pub invariant-loop-param : goal.invariant-loop-param
invariant-loop-param l = IsSound l.fn.types → IsSound l.types × HasParts l.types (fields_of (take l.param-index l.params))
