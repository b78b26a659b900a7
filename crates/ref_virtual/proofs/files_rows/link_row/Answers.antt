use Rattle.tree_table.specs.Tables.{count_of}
use Rattle.ref_virtual.proofs.FilesInsideLemmas.{row_fixed, fixed_inside}
use Rattle.ref_virtual.proofs.files_rows.link_row.Goals as goal

pub returns-in_ok-ok-in-Some-clause-inside : goal.returns-in_ok-ok-in-Some-clause-inside
returns-in_ok-ok-in-Some-clause-inside c = row_fixed c.returns.result _ (count_of c.args.table.now) c.returns.ensures

pub returns-in-None-clause-inside : goal.returns-in-None-clause-inside
returns-in-None-clause-inside c = fixed_inside c.fails.result _ (count_of c.args.table.now) c.fails.ensures
