use Rattle.std.proofs.Common.{◌≡◌, [], Bool, map}
use Rattle.std.specs.List.{list_any}
use Rattle.toml.specs.View.{table_view, members_view}
use Rattle.policy_toml.specs.Reading.{each_member}
use Rattle.path_names.specs.Paths.{Placed}
use Rattle.policy_toml.specs.Trees.{file_at, file_placed}
use Rattle.policy_toml.proofs.tree.each_file.Given as goal

abbrev pub invariant-loop-key : goal.invariant-loop-key
invariant-loop-key l = record {
  read : each_member (file_at l.path) [] (table_view l.table) ≡ each_member (file_at l.path) l.files (members_view l.key-iterator);
  placed : (test : Placed → Bool) → list_any test l.paths ≡ list_any test (map file_placed l.files);
}
