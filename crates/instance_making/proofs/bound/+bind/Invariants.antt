use Rattle.std.proofs.Common.{List, drop, ◌++◌}
use Rattle.comp_types.specs.Sizes.{item_size, entries_size}
use Rattle.comp_types.specs.Views.{item_of, entries_of}
use Rattle.comp_link.specs.Linking.{Givens as GroupGivens, all_bound}
use Rattle.instance_making.specs.Made.{IsInstance, AreMade}
use Rattle.instance_making.specs.Shown.{SamePartners}
use Rattle.instance_making.proofs.bound.+bind.Given as goal

abbrev pub invariant-bind_all-loop-entry : goal.invariant-bind_all-loop-entry
invariant-bind_all-loop-entry l = (before : List GroupGivens) (items : GroupGivens) → AreMade l.made.items before → IsInstance before l.number items
    → SamePartners (l.resources ++ all_bound items (entries_of (drop l.entry-index l.entries))) (l.fn.resources ++ all_bound items (entries_of l.entries))

abbrev pub decreases-bind : goal.decreases-bind
decreases-bind l = item_size (item_of l.ty.now)

abbrev pub decreases-bind_all : goal.decreases-bind_all
decreases-bind_all l = entries_size (entries_of l.entries.now)
