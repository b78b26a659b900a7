use Rattle.std.proofs.Common.{◌∙◌, ap, sym}
use Rattle.std.specs.Prelude.{◌&&◌}
use Rattle.policy_text.proofs.PathOrder.{covers-unrank, within}
use Rattle.policy_text.proofs.PathEntries.{held_before, none_held_before}
use Rattle.policy_text.proofs.paths.lies_in_leaf.Goals as goal

pub returns-in-None : goal.returns-in-None
returns-in-None c =
    sym (none_held_before c.args.key.now c.args.leaves.now.entries (sym (c.range.ensures.between tt) ∙ c.in-None.ensures.steps.0))

pub returns-then-leaf : goal.returns-then-leaf
returns-then-leaf c =
    let tested = rw (c.as_slice.ensures.value, c.as_slice-then-leaf.ensures.value) at c.covers.ensures in
    tested ∙ (covers-unrank c.in-Some.before.now.items c.args.key.now.items
    ∙ (ap (λ b. b && within c.in-Some.before.now.items c.args.key.now.items) (sym c.if-leaf.true)
    ∙ sym (held_before c.args.key.now c.args.leaves.now.entries c.next_back.new.self (c.in-Some.before.now, c.in-Some.leaf.now)
    c.range.ensures.ordered c.requires (sym (c.range.ensures.between tt) ∙ c.in-Some.ensures.steps))))

pub returns-else-leaf : goal.returns-else-leaf
returns-else-leaf c =
    c.if-leaf.false ∙ (ap (λ b. b && within c.in-Some.before.now.items c.args.key.now.items) (sym c.if-leaf.false)
    ∙ sym (held_before c.args.key.now c.args.leaves.now.entries c.next_back.new.self (c.in-Some.before.now, c.in-Some.leaf.now)
    c.range.ensures.ordered c.requires (sym (c.range.ensures.between tt) ∙ c.in-Some.ensures.steps)))
