use Rattle.std.proofs.Common.{◌+◌, drop}
use Rattle.comp_types.specs.Sizes.{item_size, kind_size, entries_size}
use Rattle.comp_types.specs.Views.{item_of, kind_of, entries_of}
use Rattle.comp_types.specs.GivenResources.{named_in}
use Rattle.type_table.specs.Tables.{trees, HasEntries}
use Rattle.type_relations.proofs.SearchLemmas.{Going}
use Rattle.type_relations.proofs.items.+add_item.Given as goal

abbrev pub invariant-add_slice-loop-entry : goal.invariant-add_slice-loop-entry
invariant-add_slice-loop-entry l = HasEntries l.types (entries_of l.entries) → Going (trees l.types) l.fn.search l.search (named_in (entries_of l.entries)) (named_in (entries_of (drop l.entry-index l.entries)))

abbrev pub decreases-add_item : goal.decreases-add_item
decreases-add_item l = item_size (item_of l.ty.now)

abbrev pub decreases-add_kind : goal.decreases-add_kind
decreases-add_kind l = kind_size (kind_of l.kind.now)

abbrev pub decreases-add_declared : goal.decreases-add_declared
decreases-add_declared l = entries_size l.ty.now.instance.value.entries + 1

abbrev pub decreases-add_slice : goal.decreases-add_slice
decreases-add_slice l = entries_size (entries_of l.entries.now)
