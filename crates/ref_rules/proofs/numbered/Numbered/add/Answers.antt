use Rattle.std.proofs.Common.{◌≡◌, ◌-◌, ◌+◌, ◌<◌, [], length, arith, refl, sym, ◌∙◌}
use Rattle.std.specs.BinaryHeap.{heap_items}
use Rattle.std.proofs.lemmas.Grind.{common_steps}
use Rattle.std.proofs.lemmas.List.{nil_from_length}
use Rattle.std.proofs.lemmas.List.Sorted.{le_from_greatest}
use Rattle.slot_tables.specs.Entries.{live_count}
use Rattle.ref_rules.proofs.NumberLemmas.{Kept, copies_lookup, key_free, key_within, is_free-within, entry_by_key, entry_without_keys}
use Rattle.ref_rules.proofs.KeptLemmas.{taken, pushed}
use Rattle.ref_rules.proofs.numbered.Numbered.add.Goals as goal

pub overflow_sub-number : goal.overflow_sub-number
overflow_sub-number c =
    let keys = heap_items c.self.inside.freed in
    let some : 0 < length keys = grind (arith, common_steps) in
    key_within c.self.inside.most c.self.inside.handles.items keys c.in-Some.key c.self.invariant.kept (copies_lookup keys c.in-Some.key c.in-Some.ensures.top some)

pub index_mut-requires : goal.index_mut-requires
index_mut-requires c =
    let keys = heap_items c.self.inside.freed in
    let some : 0 < length keys = grind (arith, common_steps) in
    let inside = is_free-within c.self.inside.handles.items (c.self.inside.most - c.in-Some.key) (key_free c.self.inside.most c.self.inside.handles.items keys c.in-Some.key c.self.invariant.kept (copies_lookup keys c.in-Some.key c.in-Some.ensures.top some)) in
    grind (arith, common_steps)

pub invariant_of-self : goal.invariant_of-self
invariant_of-self c =
    let keys = heap_items c.self.inside.freed in
    let rest = heap_items c.pop.new.self in
    let some : 0 < length keys = grind (arith, common_steps) in
    let len : length keys ≡ length rest + 1 = grind (arith, common_steps) in
    let heap = (c.in-Some.ensures.heap_order c.self.invariant.order).0 in
    let enough = c.self.invariant.heap in
    taken c.self.inside.most c.self.inside.handles.items keys _ _ c.self.invariant rest c.in-Some.key _ c.args.handle (copies_lookup keys c.in-Some.key c.in-Some.ensures.top some) c.in-Some.ensures.permutation len heap (grind (arith, common_steps))

pub invariant_of-self-in-None : goal.invariant_of-self-in-None
invariant_of-self-in-None c =
    let ps = c.self.inside.handles.items in
    let none : heap_items c.self.inside.freed ≡ [] = nil_from_length (heap_items c.self.inside.freed) (grind (arith, common_steps)) in
    let none_now : heap_items c.pop.new.self ≡ [] = nil_from_length (heap_items c.pop.new.self) (grind (arith, common_steps)) in
    let below : live_count ps < c.self.inside.most = rw (← c.self.view_is) at c.requires in
    let room = c.self.invariant.room in
    let heap = c.self.invariant.heap in
    rw c.push_reserved.ensures.items (pushed c.self.inside.most ps _ _ _ _ _ _ c.args.handle c.self.invariant (none_now ∙ sym none) below none (grind (arith, common_steps)) (grind (arith, common_steps)))

pub returns-in-Some : goal.returns-in-Some
returns-in-Some c =
    let keys = heap_items c.self.inside.freed in
    let some : 0 < length keys = grind (arith, common_steps) in
    let top = le_from_greatest c.in-Some.key keys (c.in-Some.ensures.heap_order c.self.invariant.order).1 in
    let same = entry_by_key c.self.inside.most c.self.inside.handles.items keys c.in-Some.key c.args.handle c.self.invariant.kept (copies_lookup keys c.in-Some.key c.in-Some.ensures.top some) top in
    rw (← c.self.view_is, same) refl

pub returns-in-None : goal.returns-in-None
returns-in-None c =
    let ps = c.self.inside.handles.items in
    let none : heap_items c.self.inside.freed ≡ [] = nil_from_length (heap_items c.self.inside.freed) (grind (arith, common_steps)) in
    let kept : Kept c.self.inside.most ps [] = rw none at c.self.invariant.kept in
    let same = entry_without_keys c.self.inside.most ps c.args.handle kept c.self.invariant.within in
    rw (← c.self.view_is, same, c.push_reserved.ensures.items) refl
