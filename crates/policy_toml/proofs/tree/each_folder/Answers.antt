use Rattle.std.proofs.Common.{◌≡◌, ◌∙◌, ap, sym, ◌++◌, ◌+◌, ◌<◌, map, false, drop, get_or, length, arith, Ok}
use Rattle.std.specs.Prelude.{◌||◌}
use Rattle.std.specs.List.{list_any}
use Rattle.toml.specs.View.{items_view, view}
use Rattle.policy_toml.specs.Reading.{each_item}
use Rattle.policy_toml.specs.Keys.{nth}
use Rattle.policy_toml.specs.Trees.{folder_at, folder_placed}
use Rattle.policy_toml.proofs.Placing.{item_turn, folder_turn, any-placed_more}
use Rattle.policy_toml.proofs.tree.each_folder.Goals as goal

pub loop-value-preserved : goal.loop-value-preserved
loop-value-preserved c =
    let below : c.loop-value.value-index < length c.args.array.now.items = omega arith in
    let turn = folder_turn c.args.path.now c.as_str-at.result.now (view c.value-item.result) c.args.paths.now c.loop-value.folders c.in_ok-folder.folder c.as_str.result.now
    c.loop-value.paths (c.as_str-at.ensures ∙ (c.in_ok-at.ensures ∙ ap (nth c.args.path.now) c.len.ensures)) c.in_ok-folder.ensures c.as_str.ensures
    c.in_ok-place.ensures.fits c.loop-value.invariant.placed in
    let here : folder_at c.args.path.now c.args.paths.now c.loop-value.folders (view (get_or c.args.array.now.items c.loop-value.value-index c.value-item.result)) ≡ Ok c.in_ok-folder.folder =
    ap (λ vs. folder_at c.args.path.now c.args.paths.now c.loop-value.folders (view (get_or vs c.loop-value.value-index c.value-item.result))) (sym c.deref-value-items.ensures.value)
    ∙ (ap (λ v. folder_at c.args.path.now c.args.paths.now c.loop-value.folders (view v)) (sym c.value-item.is) ∙ turn) in
    record {
      read = c.loop-value.invariant.read ∙ (item_turn (folder_at c.args.path.now c.args.paths.now) c.loop-value.folders c.in_ok-folder.folder c.args.array.now.items
          c.loop-value.value-index c.value-item.result below here
          ∙ ap (λ xs. each_item (folder_at c.args.path.now c.args.paths.now) xs (items_view (drop (c.loop-value.value-index + 1) c.args.array.now.items))) (sym c.in_ok-push.ensures.ok));
      placed = λ test. c.in_ok-place.ensures.added test
          ∙ (ap (λ p. test (record { path = p; leaf = false }) || list_any test c.loop-value.paths) c.as_str.ensures
          ∙ (ap (λ b. test (folder_placed c.in_ok-folder.folder) || b) (c.loop-value.invariant.placed test)
          ∙ (any-placed_more test folder_placed c.args.paths.now c.loop-value.folders c.in_ok-folder.folder
          ∙ ap (λ xs. list_any test (c.args.paths.now ++ map folder_placed xs)) (sym c.in_ok-push.ensures.ok))));
    }
