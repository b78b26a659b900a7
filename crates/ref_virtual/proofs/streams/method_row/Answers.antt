use Rattle.std.proofs.lemmas.Result.{IfOk-weaker}
use Rattle.ref_virtual.proofs.ToldLemmas.{told_same}
use Rattle.tree_table.specs.Tables.{count_of}
use Rattle.ref_virtual.proofs.streams.method_row.Goals as goal

pub returns-in-Input-clause-row : goal.returns-in-Input-clause-row
returns-in-Input-clause-row c = rw c.in-Input.is (IfOk-weaker c.input_row.result _ _ (λ row says. λ v h. told_same c.args.table.now c.args.folder.now row _ (says v h)) c.input_row.ensures.row)

pub returns-in-Output-clause-row : goal.returns-in-Output-clause-row
returns-in-Output-clause-row c = rw c.in-Output.is (IfOk-weaker c.output_row.result _ _ (λ row says. λ v h. says c.args.table.now v) c.output_row.ensures.row)

pub returns-in-Output-clause-inside : goal.returns-in-Output-clause-inside
returns-in-Output-clause-inside c = IfOk-weaker c.output_row.result _ _ (λ row is. λ v. is v (count_of c.args.table.now)) c.output_row.ensures.inside
