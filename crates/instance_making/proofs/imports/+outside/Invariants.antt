use Rattle.std.proofs.Common.{List, take, ◌++◌}
use Rattle.comp_types.specs.Sizes.{item_size, entries_size}
use Rattle.comp_types.specs.Views.{item_of, entries_of}
use Rattle.comp_link.specs.Linking.{Givens as GroupGivens, Known, all_outside, all_known}
use Rattle.instance_making.specs.Made.{AreMade, AndMore, Holds}
use Rattle.instance_making.specs.Outside.{AreKnown}
use Rattle.instance_making.proofs.imports.+outside.Given as goal

abbrev pub invariant-outside_all-loop-entry : goal.invariant-outside_all-loop-entry
invariant-outside_all-loop-entry l = record {
  given : (before : List GroupGivens) → AreMade l.fn.made.items before → AndMore before l.made.items (λ all. Holds all l.givens (all_outside l.interface (entries_of (take l.entry-index l.entries))));
  known : (ks : List Known) → AreKnown l.fn.resources ks → AreKnown l.resources (ks ++ all_known l.interface (entries_of (take l.entry-index l.entries)));
}

abbrev pub decreases-outside_item : goal.decreases-outside_item
decreases-outside_item l = item_size (item_of l.ty.now)

abbrev pub decreases-outside_all : goal.decreases-outside_all
decreases-outside_all l = entries_size (entries_of l.entries.now)
