use Rattle.std.proofs.Common.{refl}
use Rattle.std.proofs.lemmas.Result.{IfOk-weaker}
use Rattle.wit_types.specs.PlainValue.{plain_values}
use Rattle.ref_virtual.proofs.OtherLemmas.{scratch_trees}
use Rattle.tree_table.specs.Tables.{count_of}
use Rattle.ref_virtual.proofs.FilesInsideLemmas.{row_fixed}
use Rattle.ref_virtual.proofs.InsideLemmas.{empty_inside}
use Rattle.ref_virtual.proofs.streams.input_row.Goals as goal

pub returns-in-FileAt-clause-row : goal.returns-in-FileAt-clause-row
returns-in-FileAt-clause-row c = rw c.in-FileAt.is (IfOk-weaker c.file_input_row.result _ _ (λ row says. λ v h. says (record v { scratch = c.args.folder.now }) (scratch_trees c.args.table.now v c.args.folder.now h)) c.file_input_row.ensures.row)

pub returns-in-ScratchIn-clause-row : goal.returns-in-ScratchIn-clause-row
returns-in-ScratchIn-clause-row c = rw c.in-ScratchIn.is (IfOk-weaker c.source_row.result _ _ (λ row says. λ v h. says c.args.table.now v) c.source_row.ensures)

pub returns-in-Host-clause-row : goal.returns-in-Host-clause-row
returns-in-Host-clause-row c = rw c.in-Host.is (IfOk-weaker c.empty_input_row.result _ _ (λ row says. λ v h. says c.args.table.now (record v { scratch = c.args.folder.now }) _ (plain_values c.args.args.now) refl) c.empty_input_row.ensures)

pub returns-in-Node-clause-row : goal.returns-in-Node-clause-row
returns-in-Node-clause-row c = rw c.in-Node.is (IfOk-weaker c.empty_input_row-in-Node.result _ _ (λ row says. λ v h. says c.args.table.now (record v { scratch = c.args.folder.now }) _ (plain_values c.args.args.now) refl) c.empty_input_row-in-Node.ensures)

pub returns-in-EmptyIn-clause-row : goal.returns-in-EmptyIn-clause-row
returns-in-EmptyIn-clause-row c = rw c.in-EmptyIn.is (IfOk-weaker c.empty_input_row-in-EmptyIn.result _ _ (λ row says. λ v h. says c.args.table.now (record v { scratch = c.args.folder.now }) _ (plain_values c.args.args.now) refl) c.empty_input_row-in-EmptyIn.ensures)

pub returns-in-Discard-clause-row : goal.returns-in-Discard-clause-row
returns-in-Discard-clause-row c = rw c.in-Discard.is (IfOk-weaker c.empty_input_row-in-Discard.result _ _ (λ row says. λ v h. says c.args.table.now (record v { scratch = c.args.folder.now }) _ (plain_values c.args.args.now) refl) c.empty_input_row-in-Discard.ensures)

pub returns-in-Always-clause-row : goal.returns-in-Always-clause-row
returns-in-Always-clause-row c = rw c.in-Always.is (IfOk-weaker c.empty_input_row-in-Always.result _ _ (λ row says. λ v h. says c.args.table.now (record v { scratch = c.args.folder.now }) _ (plain_values c.args.args.now) refl) c.empty_input_row-in-Always.ensures)

pub returns-in-Entries-clause-row : goal.returns-in-Entries-clause-row
returns-in-Entries-clause-row c = rw c.in-Entries.is (IfOk-weaker c.empty_input_row-in-Entries.result _ _ (λ row says. λ v h. says c.args.table.now (record v { scratch = c.args.folder.now }) _ (plain_values c.args.args.now) refl) c.empty_input_row-in-Entries.ensures)

pub returns-in-ScratchRoot-clause-row : goal.returns-in-ScratchRoot-clause-row
returns-in-ScratchRoot-clause-row c = rw c.in-ScratchRoot.is (IfOk-weaker c.empty_input_row-in-ScratchRoot.result _ _ (λ row says. λ v h. says c.args.table.now (record v { scratch = c.args.folder.now }) _ (plain_values c.args.args.now) refl) c.empty_input_row-in-ScratchRoot.ensures)

pub returns-in-ScratchEntries-clause-row : goal.returns-in-ScratchEntries-clause-row
returns-in-ScratchEntries-clause-row c = rw c.in-ScratchEntries.is (IfOk-weaker c.empty_input_row-in-ScratchEntries.result _ _ (λ row says. λ v h. says c.args.table.now (record v { scratch = c.args.folder.now }) _ (plain_values c.args.args.now) refl) c.empty_input_row-in-ScratchEntries.ensures)

pub returns-in-ScratchFile-clause-row : goal.returns-in-ScratchFile-clause-row
returns-in-ScratchFile-clause-row c = rw c.in-ScratchFile.is (IfOk-weaker c.empty_input_row-in-ScratchFile.result _ _ (λ row says. λ v h. says c.args.table.now (record v { scratch = c.args.folder.now }) _ (plain_values c.args.args.now) refl) c.empty_input_row-in-ScratchFile.ensures)

pub returns-in-ScratchOut-clause-row : goal.returns-in-ScratchOut-clause-row
returns-in-ScratchOut-clause-row c = rw c.in-ScratchOut.is (IfOk-weaker c.empty_input_row-in-ScratchOut.result _ _ (λ row says. λ v h. says c.args.table.now (record v { scratch = c.args.folder.now }) _ (plain_values c.args.args.now) refl) c.empty_input_row-in-ScratchOut.ensures)

pub returns-in-FileAt-clause-inside : goal.returns-in-FileAt-clause-inside
returns-in-FileAt-clause-inside c = IfOk-weaker c.file_input_row.result _ _ (λ row is. λ v. is) c.file_input_row.ensures.inside

pub returns-in-ScratchIn-clause-inside : goal.returns-in-ScratchIn-clause-inside
returns-in-ScratchIn-clause-inside c = IfOk-weaker c.source_row.result _ _ (λ row says. λ v. row_fixed row _ (count_of c.args.table.now) (λ f. says f v)) c.source_row.ensures

pub returns-in-Host-clause-inside : goal.returns-in-Host-clause-inside
returns-in-Host-clause-inside c = empty_inside c.empty_input_row.result c.args.method (count_of c.args.table.now) c.empty_input_row.ensures

pub returns-in-Node-clause-inside : goal.returns-in-Node-clause-inside
returns-in-Node-clause-inside c = empty_inside c.empty_input_row-in-Node.result c.args.method (count_of c.args.table.now) c.empty_input_row-in-Node.ensures

pub returns-in-EmptyIn-clause-inside : goal.returns-in-EmptyIn-clause-inside
returns-in-EmptyIn-clause-inside c = empty_inside c.empty_input_row-in-EmptyIn.result c.args.method (count_of c.args.table.now) c.empty_input_row-in-EmptyIn.ensures

pub returns-in-Discard-clause-inside : goal.returns-in-Discard-clause-inside
returns-in-Discard-clause-inside c = empty_inside c.empty_input_row-in-Discard.result c.args.method (count_of c.args.table.now) c.empty_input_row-in-Discard.ensures

pub returns-in-Always-clause-inside : goal.returns-in-Always-clause-inside
returns-in-Always-clause-inside c = empty_inside c.empty_input_row-in-Always.result c.args.method (count_of c.args.table.now) c.empty_input_row-in-Always.ensures

pub returns-in-Entries-clause-inside : goal.returns-in-Entries-clause-inside
returns-in-Entries-clause-inside c = empty_inside c.empty_input_row-in-Entries.result c.args.method (count_of c.args.table.now) c.empty_input_row-in-Entries.ensures

pub returns-in-ScratchRoot-clause-inside : goal.returns-in-ScratchRoot-clause-inside
returns-in-ScratchRoot-clause-inside c = empty_inside c.empty_input_row-in-ScratchRoot.result c.args.method (count_of c.args.table.now) c.empty_input_row-in-ScratchRoot.ensures

pub returns-in-ScratchEntries-clause-inside : goal.returns-in-ScratchEntries-clause-inside
returns-in-ScratchEntries-clause-inside c = empty_inside c.empty_input_row-in-ScratchEntries.result c.args.method (count_of c.args.table.now) c.empty_input_row-in-ScratchEntries.ensures

pub returns-in-ScratchFile-clause-inside : goal.returns-in-ScratchFile-clause-inside
returns-in-ScratchFile-clause-inside c = empty_inside c.empty_input_row-in-ScratchFile.result c.args.method (count_of c.args.table.now) c.empty_input_row-in-ScratchFile.ensures

pub returns-in-ScratchOut-clause-inside : goal.returns-in-ScratchOut-clause-inside
returns-in-ScratchOut-clause-inside c = empty_inside c.empty_input_row-in-ScratchOut.result c.args.method (count_of c.args.table.now) c.empty_input_row-in-ScratchOut.ensures
