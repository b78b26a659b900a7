use Rattle.std.proofs.Common.{◌+◌, ◌≤◌, arith, subst}
use Rattle.core_memory.proofs.Memories.{linear_bytes, linear_short}
use Rattle.std.specs.Prelude.{IsTrue, ◌↔◌}
use Rattle.core_memory.proofs.memory.Memory.holds.Goals as goal

pub returns-clause-holds : goal.returns-clause-holds
returns-clause-holds c = let n = linear_bytes c.self.inside.pages.items c.self.inside.max c.args.self.now c.self.view_is c.self.invariant in subst (λ end. IsTrue c.fits.result ↔ (c.args.at + c.args.len ≤ end)) (omega arith) c.fits.ensures

pub returns-clause-bytes : goal.returns-clause-bytes
returns-clause-bytes c = linear_short c.self.inside.pages.items c.self.inside.max c.args.self.now c.self.view_is c.self.invariant
