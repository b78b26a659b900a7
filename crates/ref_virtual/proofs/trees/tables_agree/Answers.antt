use Rattle.ref_virtual.proofs.TreeLaws as laws
use Rattle.ref_virtual.proofs.trees.tables_agree.Goals as goal

pub returns : goal.returns
returns c = laws.tables_agree
