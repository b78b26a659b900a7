use Rattle.tree_table.specs.Tables.{count_of}
use Rattle.ref_rules.specs.declared.content.Content.TheVariants.{FileAt}
use Rattle.ref_virtual.proofs.FilesInsideLemmas.{below, gives_inside, fixed_inside}
use Rattle.ref_virtual.proofs.files_rows.stream_row.Goals as goal

pub returns-in-File-clause-inside : goal.returns-in-File-clause-inside
returns-in-File-clause-inside c = gives_inside c.gives_ok.result (FileAt c.args.node c.min.result) (count_of c.args.table.now) c.gives_ok.ensures (below c.args.node (count_of c.args.table.now) c.requires)

pub returns-in-Folder-clause-inside : goal.returns-in-Folder-clause-inside
returns-in-Folder-clause-inside c = fixed_inside c.fails.result _ (count_of c.args.table.now) c.fails.ensures

pub returns-in-Link-clause-inside : goal.returns-in-Link-clause-inside
returns-in-Link-clause-inside c = fixed_inside c.fails-in-Link.result _ (count_of c.args.table.now) c.fails-in-Link.ensures
