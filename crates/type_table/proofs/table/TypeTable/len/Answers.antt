use Rattle.std.proofs.Common.{subst}
use Rattle.type_table.specs.Tables.{trees}
use Rattle.type_table.specs.Nodes.{types_in, AreApart}
use Rattle.type_table.proofs.NodeLemmas.{once}
use Rattle.type_table.proofs.table.TypeTable.len.Goals as goal

pub returns-clause-once : goal.returns-clause-once
returns-clause-once c = subst (λ ts. AreApart (trees ts)) c.self.view_is (once (types_in c.self.inside.nodes.items) c.self.inside.places c.self.invariant)
