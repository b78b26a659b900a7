use Rattle.std.proofs.Common.{◌∷◌, [], length, ap, arith}
use Rattle.tree_table.specs.Stored.{root_entry}
use Rattle.tree_table.proofs.StoredLemmas.{length-from}
use Rattle.tree_table.proofs.nodes.Nodes.len.Goals as goal

pub returns : goal.returns
returns c =
    let below = c.self.inside.below.items in
    let size = length-from (root_entry ∷ []) below in
    omega (arith, size, c.len.ensures, ap length c.self.view_is)
