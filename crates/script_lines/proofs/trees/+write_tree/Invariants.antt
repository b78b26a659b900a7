use Rattle.std.proofs.Common.{drop}
use Rattle.json.specs.Written.{Written}
use Rattle.serde_json.specs.View.{items_view, members_view}
use Rattle.script_lines.specs.Added.{AddsExactItems, AddsExactMembers}
use Rattle.script_lines.proofs.trees.+write_tree.Given as goal

-- whatever ends it well from here ends it well from the start
abbrev pub invariant-write_items-loop-item : goal.invariant-write_items-loop-item
invariant-write_items-loop-item l =
    (end : Written) → AddsExactItems l.out end (items_view (drop l.item-index l.item-items)) → AddsExactItems l.initial.out end (items_view l.item-items)

abbrev pub invariant-write_members-loop-key : goal.invariant-write_members-loop-key
invariant-write_members-loop-key l =
    (end : Written) → AddsExactMembers l.out end (members_view l.key-iterator) → AddsExactMembers l.initial.out end (members_view l.members.entries)
