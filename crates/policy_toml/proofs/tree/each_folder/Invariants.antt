use Rattle.std.proofs.Common.{◌≡◌, ◌++◌, [], Bool, map, drop}
use Rattle.std.specs.List.{list_any}
use Rattle.toml.specs.View.{array_view, items_view}
use Rattle.policy_toml.specs.Reading.{each_item}
use Rattle.path_names.specs.Paths.{Placed}
use Rattle.policy_toml.specs.Trees.{folder_at, folder_placed}
use Rattle.policy_toml.proofs.tree.each_folder.Given as goal

abbrev pub invariant-loop-value : goal.invariant-loop-value
invariant-loop-value l = record {
  read : each_item (folder_at l.path l.fn.paths) [] (array_view l.array) ≡ each_item (folder_at l.path l.fn.paths) l.folders (items_view (drop l.value-index l.array.items));
  placed : (test : Placed → Bool) → list_any test l.paths ≡ list_any test (l.fn.paths ++ map folder_placed l.folders);
}
