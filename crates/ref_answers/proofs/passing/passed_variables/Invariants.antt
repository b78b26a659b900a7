use Rattle.std.proofs.Common.{◌≡◌, ◌++◌, map}
use Rattle.wit_types.specs.PlainValue.{plain_value}
use Rattle.ref_answers.proofs.passing.passed_variables.Given as goal

abbrev pub invariant-loop-variable : goal.invariant-loop-variable
invariant-loop-variable l = map plain_value l.passed.items ≡ map plain_value l.initial.passed.items ++ map plain_value l.yielded
