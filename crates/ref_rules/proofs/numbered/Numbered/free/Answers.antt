use Rattle.std.proofs.Common.{◌≡◌, ◌+◌, length, arith}
use Rattle.std.specs.BinaryHeap.{heap_items}
use Rattle.std.proofs.lemmas.Grind.{common_steps}
use Rattle.ref_rules.proofs.KeptLemmas.{freed}
use Rattle.ref_rules.proofs.numbered.Numbered.free.Goals as goal

pub invariant_of-self : goal.invariant_of-self
invariant_of-self c =
    let keys = heap_items c.self.inside.freed in
    let new = heap_items c.push.new.self in
    let len : length new ≡ length keys + 1 = grind (arith, common_steps) in
    let live = rw (← c.self.view_is) at c.requires in
    freed c.self.inside.most c.self.inside.handles.items keys _ _ c.self.invariant c.args.number new _ live c.in-Ok.ensures.permutation len (c.in-Ok.ensures.heap_order c.self.invariant.order) (grind (arith, common_steps))
