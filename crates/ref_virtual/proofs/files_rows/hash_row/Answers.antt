use Rattle.tree_table.specs.Tables.{count_of}
use Rattle.ref_virtual.proofs.FilesInsideLemmas.{row_fixed}
use Rattle.ref_virtual.proofs.files_rows.hash_row.Goals as goal

pub returns-clause-inside : goal.returns-clause-inside
returns-clause-inside c = row_fixed c.returns.result _ (count_of c.args.table.now) c.returns.ensures
