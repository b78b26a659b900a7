use Rattle.std.proofs.Common.{arith, refl}
use Rattle.core_memory.proofs.Memories.{linear_bytes, filled_none, filled_pages}
use Rattle.core_memory.proofs.Sequence.{length_repeated}
use Rattle.core_memory.proofs.memory.Memory.fill.Goals as goal

pub returns-then-not-holds : goal.returns-then-not-holds
returns-then-not-holds c = let k = length_repeated c.args.len c.args.value in (grind (arith, k), refl)

pub returns-then-len-eq0 : goal.returns-then-len-eq0
returns-then-len-eq0 c = let k = length_repeated c.args.len c.args.value in (grind (arith, k), filled_none c.args.self.now c.args.at c.args.len c.args.value (omega arith))

pub make_pages-requires-clause-within : goal.make_pages-requires-clause-within
make_pages-requires-clause-within c = let n = linear_bytes c.self.inside.pages.items c.self.inside.max c.args.self.now c.self.view_is c.self.invariant in grind (arith, n)

pub returns : goal.returns
returns c = let k = length_repeated c.args.len c.args.value in
    (grind (arith, k), filled_pages c.self.inside.pages.items c.make_pages.new.pages.items c.fill_all.new.pages.items c.self.inside.max c.args.self.now c.args.at c.args.len c.args.value c.self.view_is c.make_pages.ensures.bytes c.in_ok-make_pages.ensures.ok c.fill_all.ensures)
