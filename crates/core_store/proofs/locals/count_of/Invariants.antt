use Rattle.std.proofs.Common.{◌≡◌, length, take}
use Rattle.core_store.specs.Locals.{each_local}
use Rattle.core_store.proofs.locals.count_of.Given as goal

abbrev pub invariant-loop-run : goal.invariant-loop-run
invariant-loop-run l = l.count ≡ length (each_local (take l.run-index l.runs))
