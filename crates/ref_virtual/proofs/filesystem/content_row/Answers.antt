use Rattle.std.proofs.Common.{refl}
use Rattle.std.proofs.lemmas.Result.{IfOk-weaker}
use Rattle.wit_types.specs.PlainValue.{plain_values, End}
use Rattle.ref_rules.specs.Lives.{is_open}
use Rattle.ref_virtual.proofs.ToldLemmas.{told_same}
use Rattle.ref_virtual.proofs.OtherLemmas.{other_of, held_trees}
use Rattle.tree_table.specs.Tables.{count_of}
use Rattle.ref_virtual.proofs.FilesInsideLemmas.{row_fixed}
use Rattle.ref_virtual.proofs.InsideLemmas.{other_inside}
use Rattle.ref_virtual.proofs.filesystem.content_row.Goals as goal

pub returns-in-Node-clause-row : goal.returns-in-Node-clause-row
returns-in-Node-clause-row c = rw c.in-Node.is (IfOk-weaker c.node_row.result _ _ (λ row says. λ v h t e. told_same c.args.table.now c.args.folder.now row _ (says (record v { scratch = c.args.folder.now; held = λ k. is_open c.args.live.now.handles k }) (held_trees c.args.table.now v c.args.folder.now (λ k. is_open c.args.live.now.handles k) h) e)) c.node_row.ensures.row)

pub returns-in-Entries-clause-row : goal.returns-in-Entries-clause-row
returns-in-Entries-clause-row c = rw c.in-Entries.is (IfOk-weaker c.listing_row.result _ _ (λ row says. λ v h t e. told_same c.args.table.now c.args.folder.now row _ (says (record v { scratch = c.args.folder.now; held = λ k. is_open c.args.live.now.handles k }) (plain_values c.args.args.now) (held_trees c.args.table.now v c.args.folder.now (λ k. is_open c.args.live.now.handles k) h) t)) c.listing_row.ensures.row)

pub returns-in-ScratchRoot-clause-row : goal.returns-in-ScratchRoot-clause-row
returns-in-ScratchRoot-clause-row c = rw c.in-ScratchRoot.is (IfOk-weaker c.root_row.result _ _ (λ row says. λ v h t e. says c.args.table.now v t e) c.root_row.ensures.row)

pub returns-in-ScratchFile-clause-row : goal.returns-in-ScratchFile-clause-row
returns-in-ScratchFile-clause-row c = rw c.in-ScratchFile.is (IfOk-weaker c.file_row.result _ _ (λ row says. λ v h t e. says c.args.table.now (record v { held = λ k. is_open c.args.live.now.handles k }) t e) c.file_row.ensures.row)

pub returns-in-ScratchEntries-clause-row : goal.returns-in-ScratchEntries-clause-row
returns-in-ScratchEntries-clause-row c = rw c.in-ScratchEntries.is (IfOk-weaker c.scratch_listing_row.result _ _ (λ row says. λ v h t e. told_same c.args.table.now c.args.folder.now row _ (says c.args.table.now (record v { held = λ k. is_open c.args.live.now.handles k }) (plain_values c.args.args.now) t)) c.scratch_listing_row.ensures)

pub returns-in-Host-clause-row : goal.returns-in-Host-clause-row
returns-in-Host-clause-row c = rw c.in-Host.is (IfOk-weaker c.other_row.result _ _ (λ row says. λ v h t e. told_same c.args.table.now c.args.folder.now row _ (says c.args.table.now (record v { scratch = c.args.folder.now; held = λ k. is_open c.args.live.now.handles k }) _ (plain_values c.args.args.now) t (other_of c.args.method _ refl refl))) c.other_row.ensures)

pub returns-in-FileAt-clause-row : goal.returns-in-FileAt-clause-row
returns-in-FileAt-clause-row c = rw c.in-FileAt.is (IfOk-weaker c.other_row-in-FileAt.result _ _ (λ row says. λ v h t e. told_same c.args.table.now c.args.folder.now row _ (says c.args.table.now (record v { scratch = c.args.folder.now; held = λ k. is_open c.args.live.now.handles k }) _ (plain_values c.args.args.now) t (other_of c.args.method _ refl refl))) c.other_row-in-FileAt.ensures)

pub returns-in-EmptyIn-clause-row : goal.returns-in-EmptyIn-clause-row
returns-in-EmptyIn-clause-row c = rw c.in-EmptyIn.is (IfOk-weaker c.other_row-in-EmptyIn.result _ _ (λ row says. λ v h t e. told_same c.args.table.now c.args.folder.now row _ (says c.args.table.now (record v { scratch = c.args.folder.now; held = λ k. is_open c.args.live.now.handles k }) _ (plain_values c.args.args.now) t (other_of c.args.method _ refl refl))) c.other_row-in-EmptyIn.ensures)

pub returns-in-Discard-clause-row : goal.returns-in-Discard-clause-row
returns-in-Discard-clause-row c = rw c.in-Discard.is (IfOk-weaker c.other_row-in-Discard.result _ _ (λ row says. λ v h t e. told_same c.args.table.now c.args.folder.now row _ (says c.args.table.now (record v { scratch = c.args.folder.now; held = λ k. is_open c.args.live.now.handles k }) _ (plain_values c.args.args.now) t (other_of c.args.method _ refl refl))) c.other_row-in-Discard.ensures)

pub returns-in-Always-clause-row : goal.returns-in-Always-clause-row
returns-in-Always-clause-row c = rw c.in-Always.is (IfOk-weaker c.other_row-in-Always.result _ _ (λ row says. λ v h t e. told_same c.args.table.now c.args.folder.now row _ (says c.args.table.now (record v { scratch = c.args.folder.now; held = λ k. is_open c.args.live.now.handles k }) _ (plain_values c.args.args.now) t (other_of c.args.method _ refl refl))) c.other_row-in-Always.ensures)

pub returns-in-ScratchIn-clause-row : goal.returns-in-ScratchIn-clause-row
returns-in-ScratchIn-clause-row c = rw c.in-ScratchIn.is (IfOk-weaker c.other_row-in-ScratchIn.result _ _ (λ row says. λ v h t e. told_same c.args.table.now c.args.folder.now row _ (says c.args.table.now (record v { scratch = c.args.folder.now; held = λ k. is_open c.args.live.now.handles k }) _ (plain_values c.args.args.now) t (other_of c.args.method _ refl refl))) c.other_row-in-ScratchIn.ensures)

pub returns-in-ScratchOut-clause-row : goal.returns-in-ScratchOut-clause-row
returns-in-ScratchOut-clause-row c = rw c.in-ScratchOut.is (IfOk-weaker c.other_row-in-ScratchOut.result _ _ (λ row says. λ v h t e. told_same c.args.table.now c.args.folder.now row _ (says c.args.table.now (record v { scratch = c.args.folder.now; held = λ k. is_open c.args.live.now.handles k }) _ (plain_values c.args.args.now) t (other_of c.args.method _ refl refl))) c.other_row-in-ScratchOut.ensures)

pub returns-in-Node-clause-inside : goal.returns-in-Node-clause-inside
returns-in-Node-clause-inside c = IfOk-weaker c.node_row.result _ _ (λ row is. λ v t. is) c.node_row.ensures.inside

pub returns-in-ScratchRoot-clause-inside : goal.returns-in-ScratchRoot-clause-inside
returns-in-ScratchRoot-clause-inside c = IfOk-weaker c.root_row.result _ _ (λ row is. λ v t. is v (count_of c.args.table.now) t) c.root_row.ensures.inside

pub returns-in-ScratchFile-clause-inside : goal.returns-in-ScratchFile-clause-inside
returns-in-ScratchFile-clause-inside c = IfOk-weaker c.file_row.result _ _ (λ row is. λ v t. is v (count_of c.args.table.now) t) c.file_row.ensures.inside

pub returns-in-ScratchEntries-clause-inside : goal.returns-in-ScratchEntries-clause-inside
returns-in-ScratchEntries-clause-inside c = IfOk-weaker c.scratch_listing_row.result _ _ (λ row says. λ v t. row_fixed row _ (count_of c.args.table.now) (λ f. says f v End t)) c.scratch_listing_row.ensures

pub returns-in-Host-clause-inside : goal.returns-in-Host-clause-inside
returns-in-Host-clause-inside c = other_inside c.other_row.result c.args.method c.args.trees (count_of c.args.table.now) c.other_row.ensures

pub returns-in-FileAt-clause-inside : goal.returns-in-FileAt-clause-inside
returns-in-FileAt-clause-inside c = other_inside c.other_row-in-FileAt.result c.args.method c.args.trees (count_of c.args.table.now) c.other_row-in-FileAt.ensures

pub returns-in-EmptyIn-clause-inside : goal.returns-in-EmptyIn-clause-inside
returns-in-EmptyIn-clause-inside c = other_inside c.other_row-in-EmptyIn.result c.args.method c.args.trees (count_of c.args.table.now) c.other_row-in-EmptyIn.ensures

pub returns-in-Discard-clause-inside : goal.returns-in-Discard-clause-inside
returns-in-Discard-clause-inside c = other_inside c.other_row-in-Discard.result c.args.method c.args.trees (count_of c.args.table.now) c.other_row-in-Discard.ensures

pub returns-in-Always-clause-inside : goal.returns-in-Always-clause-inside
returns-in-Always-clause-inside c = other_inside c.other_row-in-Always.result c.args.method c.args.trees (count_of c.args.table.now) c.other_row-in-Always.ensures

pub returns-in-ScratchIn-clause-inside : goal.returns-in-ScratchIn-clause-inside
returns-in-ScratchIn-clause-inside c = other_inside c.other_row-in-ScratchIn.result c.args.method c.args.trees (count_of c.args.table.now) c.other_row-in-ScratchIn.ensures

pub returns-in-ScratchOut-clause-inside : goal.returns-in-ScratchOut-clause-inside
returns-in-ScratchOut-clause-inside c = other_inside c.other_row-in-ScratchOut.result c.args.method c.args.trees (count_of c.args.table.now) c.other_row-in-ScratchOut.ensures
