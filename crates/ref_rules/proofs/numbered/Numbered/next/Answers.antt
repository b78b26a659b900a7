use Rattle.std.proofs.Common.{◌≡◌, ◌<◌, [], length, arith, sym, ◌∙◌}
use Rattle.std.specs.BinaryHeap.{heap_items}
use Rattle.std.proofs.lemmas.Grind.{common_steps}
use Rattle.std.proofs.lemmas.List.{nil_from_length}
use Rattle.std.proofs.lemmas.List.Sorted.{le_from_greatest}
use Rattle.ref_rules.proofs.NumberLemmas.{Kept, copies_lookup, key_within, first_by_key, first_without_keys}
use Rattle.ref_rules.proofs.numbered.Numbered.next.Goals as goal

pub overflow_sub-result : goal.overflow_sub-result
overflow_sub-result c =
    let keys = heap_items c.self.inside.freed in
    let some : 0 < length keys = grind (arith, common_steps) in
    key_within c.self.inside.most c.self.inside.handles.items keys c.in-Some.key.now c.self.invariant.kept (copies_lookup keys c.in-Some.key.now c.in-Some.ensures.lookup some)

pub overflow_cast-result : goal.overflow_cast-result
overflow_cast-result c =
    let within = c.self.invariant.within in
    let few = c.self.invariant.few in
    grind (arith, common_steps)

pub returns-in-Some : goal.returns-in-Some
returns-in-Some c =
    let keys = heap_items c.self.inside.freed in
    let some : 0 < length keys = grind (arith, common_steps) in
    let top = le_from_greatest c.in-Some.key.now keys (c.in-Some.ensures.greatest c.self.invariant.order) in
    rw (← c.self.view_is) (sym (first_by_key c.self.inside.most c.self.inside.handles.items keys c.in-Some.key.now c.self.invariant.kept (copies_lookup keys c.in-Some.key.now c.in-Some.ensures.lookup some) top))

pub returns-in-None : goal.returns-in-None
returns-in-None c =
    let keys = heap_items c.self.inside.freed in
    let ps = c.self.inside.handles.items in
    let none : keys ≡ [] = nil_from_length keys (grind (arith, common_steps)) in
    let kept : Kept c.self.inside.most ps [] = rw none at c.self.invariant.kept in
    let len : c.len.result ≡ length ps = grind (arith, common_steps) in
    rw (← c.self.view_is) (len ∙ sym (first_without_keys c.self.inside.most ps kept c.self.invariant.within))
