use Rattle.std.proofs.Common.{◌≡◌, take}
use Rattle.wit_types.specs.PlainValue.{values_of}
use Rattle.wit_types.proofs.value_copies.+copy_value.Given as goal

abbrev pub invariant-copy_each-loop-value : goal.invariant-copy_each-loop-value
invariant-copy_each-loop-value l = values_of l.items.items ≡ values_of (take l.value-index l.values)
