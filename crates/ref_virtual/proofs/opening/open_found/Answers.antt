use Rattle.tree_table.specs.Tables.{count_of}
use Rattle.ref_rules.specs.declared.content.Content.TheVariants.{Node}
use Rattle.ref_virtual.proofs.FilesInsideLemmas.{below, gives_inside, fixed_inside}
use Rattle.ref_virtual.proofs.opening.open_found.Goals as goal

pub returns-in-Folder-clause-inside : goal.returns-in-Folder-clause-inside
returns-in-Folder-clause-inside c = fixed_inside c.fails.result _ (count_of c.args.table.now) c.fails.ensures

pub returns-in-File-clause-inside : goal.returns-in-File-clause-inside
returns-in-File-clause-inside c = fixed_inside c.fails-in-File.result _ (count_of c.args.table.now) c.fails-in-File.ensures

pub returns-in-Link-clause-inside : goal.returns-in-Link-clause-inside
returns-in-Link-clause-inside c = fixed_inside c.fails-in-Link.result _ (count_of c.args.table.now) c.fails-in-Link.ensures

pub returns-in-Link-kind-clause-inside : goal.returns-in-Link-kind-clause-inside
returns-in-Link-kind-clause-inside c = fixed_inside c.fails-in-Link-kind.result _ (count_of c.args.table.now) c.fails-in-Link-kind.ensures

pub returns-in-Folder-kind-clause-inside : goal.returns-in-Folder-kind-clause-inside
returns-in-Folder-kind-clause-inside c = gives_inside c.gives_ok.result (Node c.args.node) (count_of c.args.table.now) c.gives_ok.ensures (below c.args.node (count_of c.args.table.now) c.requires)

pub returns-then-has_flag-2-clause-inside : goal.returns-then-has_flag-2-clause-inside
returns-then-has_flag-2-clause-inside c = fixed_inside c.fails-then-has_flag-2.result _ (count_of c.args.table.now) c.fails-then-has_flag-2.ensures

pub returns-else-has_flag-2-clause-inside : goal.returns-else-has_flag-2-clause-inside
returns-else-has_flag-2-clause-inside c = gives_inside c.gives_ok-else-has_flag-2.result (Node c.args.node) (count_of c.args.table.now) c.gives_ok-else-has_flag-2.ensures (below c.args.node (count_of c.args.table.now) c.requires)
