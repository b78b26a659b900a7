use Rattle.tree_table.specs.Tables.{count_of}
use Rattle.ref_virtual.proofs.FilesInsideLemmas.{row_fixed, fixed_inside}
use Rattle.ref_virtual.proofs.files_rows.read_row.Goals as goal

pub returns-in_ok-bytes_from-in-File-clause-inside : goal.returns-in_ok-bytes_from-in-File-clause-inside
returns-in_ok-bytes_from-in-File-clause-inside c = row_fixed c.returns.result _ (count_of c.args.table.now) c.returns.ensures

pub returns-in-Folder-clause-inside : goal.returns-in-Folder-clause-inside
returns-in-Folder-clause-inside c = fixed_inside c.fails.result _ (count_of c.args.table.now) c.fails.ensures

pub returns-in-Link-clause-inside : goal.returns-in-Link-clause-inside
returns-in-Link-clause-inside c = fixed_inside c.fails-in-Link.result _ (count_of c.args.table.now) c.fails-in-Link.ensures
