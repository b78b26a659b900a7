use Rattle.std.proofs.Common.{◌≡◌, ◌++◌, [], Bool, map}
use Rattle.std.specs.List.{list_any}
use Rattle.toml.specs.View.{table_view, members_view}
use Rattle.policy_toml.specs.Reading.{each_member}
use Rattle.path_names.specs.Paths.{Placed}
use Rattle.policy_toml.specs.Trees.{link_at, link_placed}
use Rattle.policy_toml.proofs.tree.each_link.Given as goal

abbrev pub invariant-loop-key : goal.invariant-loop-key
invariant-loop-key l = record {
  read : each_member (link_at l.path l.fn.paths) [] (table_view l.table) ≡ each_member (link_at l.path l.fn.paths) l.links (members_view l.key-iterator);
  placed : (test : Placed → Bool) → list_any test l.paths ≡ list_any test (l.fn.paths ++ map link_placed l.links);
}
