use Rattle.ref_virtual.proofs.SameLemmas.{same_nodes}
use Rattle.ref_virtual.proofs.files_rows.are_same_nodes.Goals as goal

pub returns : goal.returns
returns c = λ v h. same_nodes c.args.table.now v h c.args.node c.args.other c.requires.node c.requires.other
