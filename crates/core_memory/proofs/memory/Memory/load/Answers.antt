use Rattle.std.proofs.Common.{arith, sym, ap, ◌∙◌}
use Rattle.core_memory.proofs.Memories.{linear_bytes, loaded_page}
use Rattle.std.specs.Prelude.{Ok}
use Rattle.core_memory.proofs.memory.Memory.load.Goals as goal

pub returns-then-offset-width-clause-value : goal.returns-then-offset-width-clause-value
returns-then-offset-width-clause-value c = ap Ok c.number_at.ensures.value ∙ sym (loaded_page c.self.inside.pages.items c.self.inside.max c.args.self.now c.args.at c.args.width c.index.result.now c.bytes-bytes.result.now c.self.view_is c.self.invariant c.requires (omega arith) c.index.ensures c.bytes-bytes.ensures.bytes (omega arith))

pub read_slowly-requires-clause-within : goal.read_slowly-requires-clause-within
read_slowly-requires-clause-within c = let n = linear_bytes c.self.inside.pages.items c.self.inside.max c.args.self.now c.self.view_is c.self.invariant in grind (arith, n)
