use Rattle.std.proofs.Common.{◌≡◌, [], drop}
use Rattle.toml.specs.View.{array_view, items_view}
use Rattle.policy_toml.specs.Reading.{each_item}
use Rattle.policy_toml.proofs.lists.each_item.Given as goal

abbrev pub invariant-loop-value : goal.invariant-loop-value
invariant-loop-value g l =
    each_item (g.I.ItemReader.reads_item l.reader l.path) [] (array_view l.array)
    ≡ each_item (g.I.ItemReader.reads_item l.reader l.path) l.items (items_view (drop l.value-index l.array.items))
