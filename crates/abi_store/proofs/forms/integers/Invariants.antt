use Rattle.std.proofs.Common.{◌≡◌, take}
use Rattle.wit_types.specs.PlainValue.{values_of, byte_values}
use Rattle.abi_store.proofs.forms.integers.Given as goal

abbrev pub invariant-loop-byte : goal.invariant-loop-byte
invariant-loop-byte l = values_of l.values.items ≡ byte_values (take l.byte-index l.bytes)
