use Rattle.std.proofs.Common.{◌≡◌, ◌++◌, ◌-◌}
use Rattle.core_memory.specs.Number.{bytes_of}
use Rattle.abi_store.proofs.number.push_number.Given as goal

abbrev pub invariant-loop-done : goal.invariant-loop-done
invariant-loop-done l = l.run.items ++ bytes_of (l.width - l._done) l.rest ≡ l.initial.run.items ++ bytes_of l.width l.number
