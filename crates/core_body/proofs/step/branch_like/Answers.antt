use Rattle.std.proofs.Common.{reverse}
use Rattle.core_body.specs.Stack.{level_of, below_of}
use Rattle.core_body.specs.Sources.{spelled}
use Rattle.core_body.specs.Levels.{labels_at, level_at, levels_at}
use Rattle.core_body.specs.Views.{context_of}
use Rattle.core_body.proofs.TableLemmas.{table-goes, table-unfit, table-lacks}
use Rattle.core_body.proofs.step.branch_like.Goals as goal

pub returns-then-not-branch : goal.returns-then-not-branch
returns-then-not-branch c =
    let d = context_of c.args.scope.now in
    let p = c.args.p.now in
    let table = c.args.table.now in
    let each = rw c.as_slice.ensures at c.in_ok-each_fits.ensures in
    table-unfit (level_at d p.current (level_of d p.stack)) (levels_at d (reverse p.outer.items) (below_of p.stack)) (labels_at d p) (spelled d c.args.first) table.default table.labels _ c.requires each c.if-not-branch.true

pub returns-then-not-take_indexed : goal.returns-then-not-take_indexed
returns-then-not-take_indexed c =
    let d = context_of c.args.scope.now in
    let p = c.args.p.now in
    let table = c.args.table.now in
    table-lacks (level_at d p.current (level_of d p.stack)) (levels_at d (reverse p.outer.items) (below_of p.stack)) (labels_at d p) (spelled d c.args.first) table.default table.labels c.requires c.if-not-take_indexed.ensures.no

pub returns : goal.returns
returns c =
    let d = context_of c.args.scope.now in
    let p = c.args.p.now in
    let table = c.args.table.now in
    let each = rw c.as_slice.ensures at c.in_ok-each_fits.ensures in
    rw (c.clear.ensures.level, c.clear.ensures.outer, c.if-not-take_indexed.ensures.outer)
    (table-goes (level_at d p.current (level_of d p.stack)) (levels_at d (reverse p.outer.items) (below_of p.stack)) (labels_at d p) (spelled d c.args.first) _ table.default table.labels _ c.requires each c.if-not-branch.false c.if-not-take_indexed.ensures.yes)
