use Rattle.std.proofs.Common.{◌≡◌, ◌∙◌, ◌+◌, ◌∷◌, [], drop, string_bytes, ap, sym, subst, rules, arith}
use Rattle.std.proofs.lemmas.List.{drop_more, drop_all}
use Rattle.serde_json.specs.View.{view, items_view, members_view}
use Rattle.serde_json.proofs.Views.{Entry}
use Rattle.script_lines.specs.Added.{AddsExactItems, AddsExactMembers}
use Rattle.script_lines.proofs.Added.{exact_item, exact_member}
use Rattle.script_lines.proofs.trees.+write_tree.Goals as goal

pub write_items-loop-item-preserved : goal.write_items-loop-item-preserved
write_items-loop-item-preserved t c =
    let l = c.loop-item in
    let xs = c.deref-item-items.result.now in
    let x = c.item-item.result in
    let here : drop l.item-index xs ≡ x ∷ drop (l.item-index + 1) xs = drop_more xs l.item-index x (omega arith) ∙ ap (λ y. y ∷ drop (l.item-index + 1) xs) (sym c.item-item.is) in
    λ end rest. l.invariant end (subst (λ ys. AddsExactItems l.out end (items_view ys)) (sym here)
    (exact_item l.out c.write_tree.new.out end (view x) (items_view (drop (l.item-index + 1) xs)) c.in_ok-write_tree.ensures rest))

pub write_items-returns : goal.write_items-returns
write_items-returns t c =
    let l = c.loop-item in
    let xs = c.deref-item-items.result.now in
    let end = c.end_array.new.self in
    let none : drop l.item-index xs ≡ [] = drop_all l.item-index xs (omega arith) in
    subst (λ ys. AddsExactItems c.args.out.now end (items_view ys)) c.deref-item-items.ensures.value
    (l.invariant end (subst (λ ys. AddsExactItems l.out end (items_view ys)) (sym none) (λ whole. (c.in_ok-end_array.ensures.ok, c.in_ok-end_array.ensures.room.0))))

pub write_members-loop-key-preserved : goal.write_members-loop-key-preserved
write_members-loop-key-preserved t c =
    let l = c.loop-key in
    let e : Entry = (c.in-Some.key.now, c.in-Some.member.now) in
    let left = c.next.new.self in
    let step : l.key-iterator ≡ e ∷ left = c.in-Some.ensures.steps in
    λ end rest. l.invariant end (subst (λ es. AddsExactMembers l.out end (members_view es)) (sym step)
    (exact_member l.out c.key.new.self c.write_tree.new.out end (string_bytes c.in-Some.key.now) (view c.in-Some.member.now) (members_view left) (search (rules, c.in_ok-key.ensures.ok), c.in_ok-key.ensures.room.0) c.in_ok-write_tree.ensures rest))

pub write_members-returns : goal.write_members-returns
write_members-returns t c =
    let l = c.loop-key in
    let end = c.end_object.new.self in
    l.invariant end (subst (λ es. AddsExactMembers l.out end (members_view es)) (sym c.in-None.ensures.steps.0) (λ whole. (c.in_ok-end_object.ensures.ok, c.in_ok-end_object.ensures.room.0)))
