use Rattle.std.proofs.Common.{refl}
use Rattle.std.proofs.lemmas.Result.{IfOk-weaker}
use Rattle.wit_types.specs.PlainValue.{plain_values}
use Rattle.ref_virtual.proofs.ToldLemmas.{told_same}
use Rattle.ref_virtual.proofs.InsideLemmas.{discard_inside, told_fixed}
use Rattle.ref_virtual.proofs.streams.output_row.Goals as goal

pub returns-in-ScratchOut-clause-row : goal.returns-in-ScratchOut-clause-row
returns-in-ScratchOut-clause-row c = rw c.in-ScratchOut.is c.sink_row.ensures

pub returns-in-Host-clause-row : goal.returns-in-Host-clause-row
returns-in-Host-clause-row c = rw c.in-Host.is (IfOk-weaker c.discard_row.result _ _ (λ row says. λ f v. told_same f c.args.folder.now row _ (says f (record v { scratch = c.args.folder.now }) _ (plain_values c.args.args.now) refl)) c.discard_row.ensures)

pub returns-in-Node-clause-row : goal.returns-in-Node-clause-row
returns-in-Node-clause-row c = rw c.in-Node.is (IfOk-weaker c.discard_row-in-Node.result _ _ (λ row says. λ f v. told_same f c.args.folder.now row _ (says f (record v { scratch = c.args.folder.now }) _ (plain_values c.args.args.now) refl)) c.discard_row-in-Node.ensures)

pub returns-in-FileAt-clause-row : goal.returns-in-FileAt-clause-row
returns-in-FileAt-clause-row c = rw c.in-FileAt.is (IfOk-weaker c.discard_row-in-FileAt.result _ _ (λ row says. λ f v. told_same f c.args.folder.now row _ (says f (record v { scratch = c.args.folder.now }) _ (plain_values c.args.args.now) refl)) c.discard_row-in-FileAt.ensures)

pub returns-in-EmptyIn-clause-row : goal.returns-in-EmptyIn-clause-row
returns-in-EmptyIn-clause-row c = rw c.in-EmptyIn.is (IfOk-weaker c.discard_row-in-EmptyIn.result _ _ (λ row says. λ f v. told_same f c.args.folder.now row _ (says f (record v { scratch = c.args.folder.now }) _ (plain_values c.args.args.now) refl)) c.discard_row-in-EmptyIn.ensures)

pub returns-in-Discard-clause-row : goal.returns-in-Discard-clause-row
returns-in-Discard-clause-row c = rw c.in-Discard.is (IfOk-weaker c.discard_row-in-Discard.result _ _ (λ row says. λ f v. told_same f c.args.folder.now row _ (says f (record v { scratch = c.args.folder.now }) _ (plain_values c.args.args.now) refl)) c.discard_row-in-Discard.ensures)

pub returns-in-Always-clause-row : goal.returns-in-Always-clause-row
returns-in-Always-clause-row c = rw c.in-Always.is (IfOk-weaker c.discard_row-in-Always.result _ _ (λ row says. λ f v. told_same f c.args.folder.now row _ (says f (record v { scratch = c.args.folder.now }) _ (plain_values c.args.args.now) refl)) c.discard_row-in-Always.ensures)

pub returns-in-Entries-clause-row : goal.returns-in-Entries-clause-row
returns-in-Entries-clause-row c = rw c.in-Entries.is (IfOk-weaker c.discard_row-in-Entries.result _ _ (λ row says. λ f v. told_same f c.args.folder.now row _ (says f (record v { scratch = c.args.folder.now }) _ (plain_values c.args.args.now) refl)) c.discard_row-in-Entries.ensures)

pub returns-in-ScratchRoot-clause-row : goal.returns-in-ScratchRoot-clause-row
returns-in-ScratchRoot-clause-row c = rw c.in-ScratchRoot.is (IfOk-weaker c.discard_row-in-ScratchRoot.result _ _ (λ row says. λ f v. told_same f c.args.folder.now row _ (says f (record v { scratch = c.args.folder.now }) _ (plain_values c.args.args.now) refl)) c.discard_row-in-ScratchRoot.ensures)

pub returns-in-ScratchEntries-clause-row : goal.returns-in-ScratchEntries-clause-row
returns-in-ScratchEntries-clause-row c = rw c.in-ScratchEntries.is (IfOk-weaker c.discard_row-in-ScratchEntries.result _ _ (λ row says. λ f v. told_same f c.args.folder.now row _ (says f (record v { scratch = c.args.folder.now }) _ (plain_values c.args.args.now) refl)) c.discard_row-in-ScratchEntries.ensures)

pub returns-in-ScratchFile-clause-row : goal.returns-in-ScratchFile-clause-row
returns-in-ScratchFile-clause-row c = rw c.in-ScratchFile.is (IfOk-weaker c.discard_row-in-ScratchFile.result _ _ (λ row says. λ f v. told_same f c.args.folder.now row _ (says f (record v { scratch = c.args.folder.now }) _ (plain_values c.args.args.now) refl)) c.discard_row-in-ScratchFile.ensures)

pub returns-in-ScratchIn-clause-row : goal.returns-in-ScratchIn-clause-row
returns-in-ScratchIn-clause-row c = rw c.in-ScratchIn.is (IfOk-weaker c.discard_row-in-ScratchIn.result _ _ (λ row says. λ f v. told_same f c.args.folder.now row _ (says f (record v { scratch = c.args.folder.now }) _ (plain_values c.args.args.now) refl)) c.discard_row-in-ScratchIn.ensures)

pub returns-in-ScratchOut-clause-inside : goal.returns-in-ScratchOut-clause-inside
returns-in-ScratchOut-clause-inside c = IfOk-weaker c.sink_row.result _ _ (λ row says. λ v nodes. told_fixed row _ _ nodes (λ f. says f v)) c.sink_row.ensures

pub returns-in-Host-clause-inside : goal.returns-in-Host-clause-inside
returns-in-Host-clause-inside c = discard_inside c.discard_row.result c.args.method c.discard_row.ensures

pub returns-in-Node-clause-inside : goal.returns-in-Node-clause-inside
returns-in-Node-clause-inside c = discard_inside c.discard_row-in-Node.result c.args.method c.discard_row-in-Node.ensures

pub returns-in-FileAt-clause-inside : goal.returns-in-FileAt-clause-inside
returns-in-FileAt-clause-inside c = discard_inside c.discard_row-in-FileAt.result c.args.method c.discard_row-in-FileAt.ensures

pub returns-in-EmptyIn-clause-inside : goal.returns-in-EmptyIn-clause-inside
returns-in-EmptyIn-clause-inside c = discard_inside c.discard_row-in-EmptyIn.result c.args.method c.discard_row-in-EmptyIn.ensures

pub returns-in-Discard-clause-inside : goal.returns-in-Discard-clause-inside
returns-in-Discard-clause-inside c = discard_inside c.discard_row-in-Discard.result c.args.method c.discard_row-in-Discard.ensures

pub returns-in-Always-clause-inside : goal.returns-in-Always-clause-inside
returns-in-Always-clause-inside c = discard_inside c.discard_row-in-Always.result c.args.method c.discard_row-in-Always.ensures

pub returns-in-Entries-clause-inside : goal.returns-in-Entries-clause-inside
returns-in-Entries-clause-inside c = discard_inside c.discard_row-in-Entries.result c.args.method c.discard_row-in-Entries.ensures

pub returns-in-ScratchRoot-clause-inside : goal.returns-in-ScratchRoot-clause-inside
returns-in-ScratchRoot-clause-inside c = discard_inside c.discard_row-in-ScratchRoot.result c.args.method c.discard_row-in-ScratchRoot.ensures

pub returns-in-ScratchEntries-clause-inside : goal.returns-in-ScratchEntries-clause-inside
returns-in-ScratchEntries-clause-inside c = discard_inside c.discard_row-in-ScratchEntries.result c.args.method c.discard_row-in-ScratchEntries.ensures

pub returns-in-ScratchFile-clause-inside : goal.returns-in-ScratchFile-clause-inside
returns-in-ScratchFile-clause-inside c = discard_inside c.discard_row-in-ScratchFile.result c.args.method c.discard_row-in-ScratchFile.ensures

pub returns-in-ScratchIn-clause-inside : goal.returns-in-ScratchIn-clause-inside
returns-in-ScratchIn-clause-inside c = discard_inside c.discard_row-in-ScratchIn.result c.args.method c.discard_row-in-ScratchIn.ensures
