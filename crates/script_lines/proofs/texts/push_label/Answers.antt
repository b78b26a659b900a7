use Rattle.std.proofs.Common.{◌∙◌, ◌++◌, ◌∷◌, [], sym, ap}
use Rattle.serde_json.specs.Data.{string, no_items}
use Rattle.serde_json.specs.View.{items_view}
use Rattle.script_lines.proofs.Places.{item_more, items_end}
use Rattle.script_lines.proofs.texts.push_label.Goals as goal

pub returns-in_ok-push : goal.returns-in_ok-push
returns-in_ok-push c =
    let old = c.args.items.now.items in
    rw (c.if-is_set.true) (ap items_view c.in_ok-push.ensures.items
    ∙ sym (item_more old c.in_ok-text_of.field-0 (string c.args.label.now) no_items c.in_ok-text_of.ensures ∙ items_end (items_view (old ++ c.in_ok-text_of.field-0 ∷ []))))

pub returns-else-is_set : goal.returns-else-is_set
returns-else-is_set c = rw (c.if-is_set.false) (sym (items_end (items_view c.args.items.now.items)))
