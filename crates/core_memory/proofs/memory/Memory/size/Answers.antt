use Rattle.std.proofs.Common.{arith}
use Rattle.core_memory.proofs.Memories.{linear_bytes}
use Rattle.core_memory.proofs.memory.Memory.size.Goals as goal

pub returns-clause-bytes : goal.returns-clause-bytes
returns-clause-bytes c = let n = linear_bytes c.self.inside.pages.items c.self.inside.max c.args.self.now c.self.view_is c.self.invariant in omega arith
