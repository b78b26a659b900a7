use Rattle.std.proofs.Common.{◌≡◌, ◌+◌, ◌≤◌, length}
use Rattle.comp_types.specs.Sizes.{item_size, kind_size, entries_size}
use Rattle.comp_types.specs.Views.{item_of, kind_of, entries_of}
use Rattle.comp_pair.proofs.same.+same_entries.Given as goal

abbrev pub invariant-same_entries-loop-x : goal.invariant-same_entries-loop-x
invariant-same_entries-loop-x l = record {
  same : entries_of l.rest ≡ entries_of l.others → entries_of l.a ≡ entries_of l.b;
  small : entries_size (entries_of l.others) ≤ entries_size (entries_of l.b);
}

abbrev pub decreases-same_entries-loop-x : goal.decreases-same_entries-loop-x
decreases-same_entries-loop-x l = length l.rest

abbrev pub decreases-same_declared : goal.decreases-same_declared
decreases-same_declared l = entries_size l.b.now.instance.value.entries + 2

abbrev pub decreases-same_entries : goal.decreases-same_entries
decreases-same_entries l = entries_size (entries_of l.b.now)

abbrev pub decreases-same_item : goal.decreases-same_item
decreases-same_item l = item_size (item_of l.b.now)

abbrev pub decreases-same_kind : goal.decreases-same_kind
decreases-same_kind l = kind_size (kind_of l.b.now)
