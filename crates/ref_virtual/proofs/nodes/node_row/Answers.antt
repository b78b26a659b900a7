use Rattle.std.proofs.Common.{◌∙◌}
use Rattle.std.proofs.lemmas.Result.{IfOk-weaker}
use Rattle.tree_table.specs.Tables.{tree_of, path_of, count_of}
use Rattle.wit_types.specs.PlainValue.{plain_values}
use Rattle.ref_virtual.proofs.MethodsOtherLemmas.{node_change}
use Rattle.ref_virtual.proofs.FilesInsideLemmas.{row_fixed, fixed_inside}
use Rattle.ref_virtual.proofs.nodes.node_row.Goals as goal

pub returns-in-Looks-clause-row : goal.returns-in-Looks-clause-row
returns-in-Looks-clause-row c = rw c.in-Looks.is (IfOk-weaker c.look_row.result _ _ (λ row says. λ v h e. says v h) c.look_row.ensures.row)

pub returns-in-Changes-clause-row : goal.returns-in-Changes-clause-row
returns-in-Changes-clause-row c =
    let f = c.args.table.now in
    let n = c.args.node in
    rw c.in-Changes.is (IfOk-weaker c.fails.result _ _ (λ row says. λ v h e. says f ∙ node_change v (plain_values c.args.args.now) c.in-Changes.change (tree_of f n) (path_of f n)) c.fails.ensures)

pub returns-in-Pairs-clause-row : goal.returns-in-Pairs-clause-row
returns-in-Pairs-clause-row c = rw c.in-Pairs.is c.pair_row.ensures.row

pub returns-in-Changes-clause-inside : goal.returns-in-Changes-clause-inside
returns-in-Changes-clause-inside c = fixed_inside c.fails.result _ (count_of c.args.table.now) c.fails.ensures

pub returns-in-Syncs-clause-inside : goal.returns-in-Syncs-clause-inside
returns-in-Syncs-clause-inside c = row_fixed c.returns.result _ (count_of c.args.table.now) c.returns.ensures

pub returns-in_ok-ok-in-ReadDirectoryEntry-clause-inside : goal.returns-in_ok-ok-in-ReadDirectoryEntry-clause-inside
returns-in_ok-ok-in-ReadDirectoryEntry-clause-inside c = row_fixed c.returns-in-ReadDirectoryEntry.result _ (count_of c.args.table.now) c.returns-in-ReadDirectoryEntry.ensures
