use Rattle.std.proofs.Common.{◌≡◌, ◌++◌, drop}
use Rattle.wit_types.specs.PlainValue.{values_of}
use Rattle.abi_layout.specs.Storing.{run_bytes}
use Rattle.abi_store.proofs.number.run_of_each.Given as goal

abbrev pub invariant-loop-value : goal.invariant-loop-value
invariant-loop-value l = l.run.items ++ run_bytes l.width (values_of (drop l.value-index l.values)) ≡ run_bytes l.width (values_of l.values)
