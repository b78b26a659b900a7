use Rattle.std.proofs.Common.{◌≡◌, map, take}
use Rattle.wit_types.specs.PlainValue.{plain_value}
use Rattle.reference_step.specs.Environment.{variable_value}
use Rattle.ref_answers.proofs.environment.variable_values.Given as goal

abbrev pub invariant-loop-variable : goal.invariant-loop-variable
invariant-loop-variable l = map plain_value l.values.items ≡ map variable_value (take l.variable-index l.variables)
