use Rattle.std.proofs.Common.{◌≡◌, ◌++◌, map, filter}
use Rattle.wit_types.specs.PlainValue.{plain_value}
use Rattle.reference_step.specs.Environment.{is_passed}
use Rattle.ref_answers.specs.Passed.{name_in}
use Rattle.ref_answers.proofs.passing.keep_each.Given as goal

abbrev pub invariant-loop-variable : goal.invariant-loop-variable
invariant-loop-variable l = map plain_value l.passed.items ≡ map plain_value l.fn.passed.items ++ filter (λ v. is_passed l.policy (name_in v)) (map plain_value l.yielded)
