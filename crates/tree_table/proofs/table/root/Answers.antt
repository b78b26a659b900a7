use Rattle.tree_table.specs.Tables.{count_of, tree_count, tree_of, name_of, parent_of, from_of, to_of}
use Rattle.std.proofs.Common.{◌<◌, arith}
use Rattle.tree_table.proofs.ForestLemmas.{path-root}
use Rattle.tree_table.proofs.RowLemmas.{forest}
use Rattle.tree_table.proofs.table.root.Goals as goal

pub returns-clause-path : goal.returns-clause-path
returns-clause-path c =
    let v = c.table.inside in
    let f = forest v.roots v.bytes.items v.slots.items in
    let low : c.args.tree < tree_count c.args.table.now = c.requires in
    rw (← c.table.view_is) (path-root (count_of f) f.roots (tree_of f) (name_of f) (parent_of f) (from_of f) (to_of f) c.args.tree (rw (← c.table.view_is) at low))

pub returns-clause-tree : goal.returns-clause-tree
returns-clause-tree c =
    let low : c.args.tree < tree_count c.args.table.now = c.requires in
    rw (← c.table.view_is) (c.table.invariant.0.roots_trees c.args.tree (rw (← c.table.view_is) at low))

pub returns-clause-inside : goal.returns-clause-inside
returns-clause-inside c =
    let low : c.args.tree < tree_count c.args.table.now = c.requires in
    let all = c.table.invariant.0.some in
    let less = rw (← c.table.view_is) at low in
    rw (← c.table.view_is) (omega arith)
