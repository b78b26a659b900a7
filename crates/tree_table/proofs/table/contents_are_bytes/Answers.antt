use Rattle.std.proofs.Common.{subst}
use Rattle.tree_table.specs.Tables.{node_of, content_of}
use Rattle.tree_table.proofs.ByteLemmas.{AreBytes, node_bytes}
use Rattle.tree_table.proofs.table.contents_are_bytes.Goals as goal

pub returns-clause-small : goal.returns-clause-small
returns-clause-small c = λ node.
    let v = c.table.inside in
    let are : AreBytes v.bytes.items = subst AreBytes c.as_slice.ensures.value (c.are_bytes.ensures.small, c.are_bytes.ensures.count) in
    (subst (λ f. AreBytes (content_of (node_of f node))) c.table.view_is (node_bytes v.roots v.bytes.items v.slots.items node are)).0

pub returns-clause-count : goal.returns-clause-count
returns-clause-count c = λ node.
    let v = c.table.inside in
    let are : AreBytes v.bytes.items = subst AreBytes c.as_slice.ensures.value (c.are_bytes.ensures.small, c.are_bytes.ensures.count) in
    (subst (λ f. AreBytes (content_of (node_of f node))) c.table.view_is (node_bytes v.roots v.bytes.items v.slots.items node are)).1
