use Rattle.std.proofs.Common.{◌≡◌, ◌++◌, drop}
use Rattle.wit_types.specs.PlainValue.{byte_values}
use Rattle.abi_layout.specs.Storing.{run_bytes}
use Rattle.abi_store.proofs.number.run_of_bytes.Given as goal

abbrev pub invariant-loop-byte : goal.invariant-loop-byte
invariant-loop-byte l = l.run.items ++ run_bytes l.width (byte_values (drop l.byte-index l.values)) ≡ run_bytes l.width (byte_values l.values)
