use Rattle.std.proofs.Common.{arith}
use Rattle.core_memory.proofs.Memories.{linear_bytes}
use Rattle.core_memory.proofs.memory.Memory.read.Goals as goal

pub read_all-requires-clause-within : goal.read_all-requires-clause-within
read_all-requires-clause-within c = let n = linear_bytes c.self.inside.pages.items c.self.inside.max c.args.self.now c.self.view_is c.self.invariant in grind (arith, n)
