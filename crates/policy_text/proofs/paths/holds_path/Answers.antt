use Rattle.std.proofs.Common.{◌∙◌, ap, sym}
use Rattle.policy_text.proofs.PathOrder.{covers-unrank}
use Rattle.policy_text.proofs.PathEntries.{first_within, held_behind}
use Rattle.policy_text.proofs.paths.holds_path.Goals as goal

pub returns-in-None : goal.returns-in-None
returns-in-None c =
    sym (held_behind c.args.key.now c.args.leaves.now.entries c.range.result c.range.ensures.ordered (c.range.ensures.between tt)
    ∙ ap (first_within c.args.key.now.items) c.in-None.ensures.steps.0)

pub returns-in-Some : goal.returns-in-Some
returns-in-Some c =
    let tested = rw (c.as_slice.ensures.value, c.as_slice-in-Some.ensures.value) at c.covers.ensures in
    tested ∙ (covers-unrank c.args.key.now.items c.in-Some.behind.now.items
    ∙ sym (held_behind c.args.key.now c.args.leaves.now.entries c.range.result c.range.ensures.ordered (c.range.ensures.between tt)
    ∙ ap (first_within c.args.key.now.items) c.in-Some.ensures.steps))
