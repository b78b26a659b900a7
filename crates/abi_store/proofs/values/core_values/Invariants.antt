use Rattle.std.proofs.Common.{◌≡◌, ◌++◌, drop}
use Rattle.abi_store.specs.Plan.{core_values}
use Rattle.abi_store.specs.Slots.{known}
use Rattle.abi_store.proofs.values.core_values.Given as goal

abbrev pub invariant-loop-index : goal.invariant-loop-index
invariant-loop-index l = l.values.items ++ core_values (drop l.index l.types) (known (drop l.index l.numbers)) ≡ core_values l.types (known l.numbers)
