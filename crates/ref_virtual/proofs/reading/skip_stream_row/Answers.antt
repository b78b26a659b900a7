use Rattle.std.proofs.Common.{◌≡◌, ◌+◌, ◌∙◌, ap, arith}
use Rattle.tree_table.specs.Tables.{tree_of, path_of, count_of}
use Rattle.reference_step.specs.Handles.{FileAt}
use Rattle.reference_step.specs.State.{moves}
use Rattle.reference_step.specs.Values.{number, ok}
use Rattle.ref_answers.specs.Shown.{shown}
use Rattle.ref_virtual.proofs.ReadLemmas.{skip_tree}
use Rattle.ref_rules.specs.declared.content.Content.TheVariants.{FileAt as Held}
use Rattle.ref_virtual.proofs.FilesInsideLemmas.{below, row_fixed, row_moves}
use Rattle.ref_virtual.proofs.reading.skip_stream_row.Goals as goal

pub returns-clause-row : goal.returns-clause-row
returns-clause-row c = λ v h.
    let f = c.args.table.now in
    let n = c.args.node in
    let at = FileAt (tree_of f n) (path_of f n) (c.args.place + c.min-count.result) in
    let row : shown f c.moves-row.result ≡ moves at (ok (number c.min-count.result)) = c.moves-row.ensures f ∙ ap (moves at) (c.in_ok-ok.ensures ∙ ap ok c.number.ensures) in
    row ∙ skip_tree f v h n c.requires c.node_bytes.result.now c.node_bytes.ensures c.args.place c.args.len c.min-count.result (omega arith) (omega (arith, c.min-count.ensures))

pub returns-then-size-place-clause-inside : goal.returns-then-size-place-clause-inside
returns-then-size-place-clause-inside c = row_fixed c.returns.result _ (count_of c.args.table.now) c.returns.ensures

pub returns-clause-inside : goal.returns-clause-inside
returns-clause-inside c = row_moves c.moves-row.result (Held c.args.node (c.args.place + c.min-count.result)) _ (count_of c.args.table.now) c.moves-row.ensures (below c.args.node (count_of c.args.table.now) c.requires)
