use Rattle.std.proofs.Common.{◌≡◌, map, take}
use Rattle.wit_types.specs.PlainValue.{plain_value}
use Rattle.reference_step.specs.Values.{number_in}
use Rattle.ref_virtual.proofs.bytes.bytes_of.Given as goal

abbrev pub invariant-loop-value : goal.invariant-loop-value
invariant-loop-value l = l.bytes.items ≡ map (λ v. number_in (plain_value v)) (take l.value-index l.values)
