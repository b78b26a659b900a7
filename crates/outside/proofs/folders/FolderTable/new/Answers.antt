use Rattle.std.proofs.Common.{sym, ◌∙◌}
use Rattle.outside.proofs.EntryLaws.{first_in_order}
use Rattle.outside.proofs.folders.FolderTable.new.Goals as goal

pub invariant_of-result : goal.invariant_of-result
invariant_of-result c = record { each_in_order = λ name entries e. first_in_order c.args.folders name entries c.requires (sym (c.in_ok-table.ensures name) ∙ e) }
