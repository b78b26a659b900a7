use Rattle.std.proofs.Common.{◌≡◌, ◌+◌, take}
use Rattle.comp_types.specs.Substitution.{partner_in, entries_with}
use Rattle.comp_types.specs.Sizes.{item_size, kind_size, entries_size}
use Rattle.comp_types.specs.Views.{item_of, kind_of, entries_of}
use Rattle.type_table.specs.Tables.{HasEntries, Grew}
use Rattle.type_relations.proofs.renaming.+item_with.Given as goal

abbrev pub invariant-slice_with-loop-entry : goal.invariant-slice_with-loop-entry
invariant-slice_with-loop-entry l = record {
  made : HasEntries l.fn.making.types (entries_of l.entries) → (l.new ≡ entries_with (partner_in l.fn.making.by) (entries_of (take l.entry-index l.entries))) × HasEntries l.making.types l.new;
  grew : HasEntries l.fn.making.types (entries_of l.entries) → Grew l.fn.making.types l.making.types;
  by : l.making.by ≡ l.fn.making.by;
}

abbrev pub decreases-item_with : goal.decreases-item_with
decreases-item_with l = item_size (item_of l.ty.now)

abbrev pub decreases-kind_with : goal.decreases-kind_with
decreases-kind_with l = kind_size (kind_of l.kind.now)

abbrev pub decreases-slice_with : goal.decreases-slice_with
decreases-slice_with l = entries_size (entries_of l.entries.now)

abbrev pub decreases-declared_with : goal.decreases-declared_with
decreases-declared_with l = entries_size l.ty.now.instance.value.entries + 1
