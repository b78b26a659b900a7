use Rattle.std.proofs.Common.{◌≡◌, ◌∙◌, ◌+◌, ◌∷◌, ◌/◌, ◌%◌, drop, ap, sym, rules, arith}
use Rattle.std.specs.Prelude.{◌==◌}
use Rattle.std.proofs.lemmas.List.{drop_more, drop_all}
use Rattle.serde_json.specs.View.{items_view}
use Rattle.script_lines.specs.Shown.{labels_set}
use Rattle.script_lines.specs.Shows.{items_then}
use Rattle.script_lines.proofs.Places.{label_more, items_end}
use Rattle.script_lines.proofs.texts.show_labels.Goals as goal

pub loop-label-preserved : goal.loop-label-preserved
loop-label-preserved c =
    let labels = c.args.labels.now in
    let i = c.loop-label.label-index in
    let x = c.label-item.result in
    let later = drop (i + 1) labels in
    let there = items_view c.loop-label.items.items in
    let cut : drop i labels ≡ x ∷ later = drop_more labels i x c.loop-label-test.true ∙ ap (λ y. y ∷ later) (sym c.label-item.is) in
    let set = c.loop-label.left % 2 == 1 in
    c.loop-label.invariant
    ∙ (ap (λ ls. items_then there (labels_set ls c.loop-label.left)) cut
    ∙ label_more there (items_view c.push_label.new.items.items) set x (labels_set later (c.loop-label.left / 2)) (search (rules, c.in_ok-push_label.ensures, c.as_str.ensures)))

pub returns : goal.returns
returns c =
    sym (c.loop-label.invariant
    ∙ (ap (λ ls. items_then (items_view c.loop-label.items.items) (labels_set ls c.loop-label.left)) (drop_all c.loop-label.label-index c.args.labels.now (omega (arith, c.loop-label-test.false)))
    ∙ items_end (items_view c.loop-label.items.items)))
