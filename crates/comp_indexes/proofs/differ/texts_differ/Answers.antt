use Rattle.std.proofs.Common.{◌∙◌, ap, sym, map}
use Rattle.std.specs.Prelude.{◌||◌}
use Rattle.comp_types.specs.CoreMatching.{same_text}
use Rattle.comp_names.specs.Seen.{holds_text}
use Rattle.comp_indexes.proofs.DifferLemmas.{are_new, starts_new, goes_on, was_new}
use Rattle.comp_indexes.proofs.differ.texts_differ.Goals as goal

pub loop-item-init : goal.loop-item-init
loop-item-init g c = starts_new same_text (holds_text c.new-seen.result) c.new-seen.ensures (map g.T.Named.name c.args.items.now)

pub loop-item-preserved : goal.loop-item-preserved
loop-item-preserved g c =
    let name = c.as_str.ensures ∙ c.name.ensures in
    c.loop-item.invariant
    ∙ (ap (λ xs. are_new same_text (holds_text c.loop-item.seen) (map g.T.Named.name xs)) c.in-Some.ensures.cases.0
    ∙ goes_on same_text (holds_text c.loop-item.seen) (holds_text c.add.new.self) (g.T.Named.name c.in-Some.item.now) (map g.T.Named.name c.in-Some.more.now)
    (λ q. c.in_ok-add.ensures.added q ∙ ap (λ x. same_text x q || holds_text c.loop-item.seen q) name)
    (sym (ap (holds_text c.loop-item.seen) name) ∙ was_new (holds_text c.loop-item.seen c.as_str.result.now) c.in_ok-add.field-0 c.in_ok-add.ensures.new c.if-not-branch.false))
