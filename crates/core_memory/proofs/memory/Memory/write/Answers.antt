use Rattle.std.proofs.Common.{arith}
use Rattle.core_memory.proofs.Memories.{linear_bytes}
use Rattle.core_memory.proofs.memory.Memory.write.Goals as goal

pub make_pages-requires-clause-within : goal.make_pages-requires-clause-within
make_pages-requires-clause-within c = let n = linear_bytes c.self.inside.pages.items c.self.inside.max c.args.self.now c.self.view_is c.self.invariant in grind (arith, n)
