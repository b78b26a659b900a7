use Rattle.std.proofs.Common.{◌≡◌, ◌++◌, map, filter, drop}
use Rattle.wit_types.specs.PlainValue.{plain_value, byte_values}
use Rattle.reference_step.specs.Environment.{is_passed}
use Rattle.reference_step.specs.Values.{items}
use Rattle.ref_answers.specs.Passed.{name_in}
use Rattle.ref_answers.proofs.passing.keep_bytes.Given as goal

abbrev pub invariant-loop-byte : goal.invariant-loop-byte
invariant-loop-byte l = map plain_value l.passed.items ++ filter (λ v. is_passed l.policy (name_in v)) (items (byte_values (drop l.byte-index l.bytes))) ≡ map plain_value l.initial.passed.items ++ filter (λ v. is_passed l.policy (name_in v)) (items (byte_values l.bytes))
