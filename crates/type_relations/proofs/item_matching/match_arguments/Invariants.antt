use Rattle.std.proofs.Common.{◌≡◌, drop}
use Rattle.comp_types.specs.Views.{entries_of}
use Rattle.comp_types.specs.Matching.{matched_arguments}
use Rattle.type_table.specs.Tables.{HasEntries}
use Rattle.type_relations.proofs.item_matching.match_arguments.Given as goal

abbrev pub invariant-loop-i : goal.invariant-loop-i
invariant-loop-i l = record {
  met : HasEntries l.fn.walk.types l.args → HasEntries l.fn.walk.types (entries_of l.imports) → matched_arguments l.fn.walk.by l.args (entries_of l.imports) ≡ matched_arguments l.walk.by l.args (entries_of (drop l.i l.imports));
  kept : l.walk.types ≡ l.fn.walk.types;
}
