use Rattle.std.proofs.Common.{◌∙◌, ap, slice_get}
use Rattle.type_table.proofs.SlotLemmas.{got}
use Rattle.type_table.proofs.NodeLemmas.{node-below}
use Rattle.type_table.proofs.table.TypeTable.node.Goals as goal

pub returns-clause-below : goal.returns-clause-below
returns-clause-below c =
    let nodes = c.self.inside.nodes.items in
    node-below nodes c.self.inside.places c.args.at c.get.result c.self.invariant
    (got c.get.result c.deref.result.now c.args.at c.get.ensures.lookup.0 c.get.ensures.lookup.1 ∙ ap (λ xs. slice_get xs c.args.at) c.deref.ensures.value)
