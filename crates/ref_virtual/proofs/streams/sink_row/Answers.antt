use Rattle.std.proofs.Common.{refl, ap, ◌∙◌}
use Rattle.std.proofs.lemmas.Result.{IfOk-weaker}
use Rattle.wit_types.specs.PlainValue.{plain_values}
use Rattle.reference_step.specs.OutputStreams as output
use Rattle.reference_step.specs.Handles.{Always, ScratchOut}
use Rattle.ref_virtual.specs.Methods.{output_row}
use Rattle.ref_scratch.specs.Told.{settled}
use Rattle.ref_virtual.proofs.ToldLemmas.{told_same}
use Rattle.ref_virtual.proofs.streams.sink_row.Goals as goal

pub returns-in-Write : goal.returns-in-Write
returns-in-Write c = rw c.in-Write.is c.write_row.ensures

pub returns-in-WriteZeroes : goal.returns-in-WriteZeroes
returns-in-WriteZeroes c =
    let m = c.args.folder.now in
    rw c.in-WriteZeroes.is (IfOk-weaker c.write_zeroes_row.result _ _ (λ row says. λ f v. says f v ∙ ap (λ n. settled m (output.write-zeroes (record v { scratch = m }) (ScratchOut c.args.file c.args.place) n)) c.number_at.ensures) c.write_zeroes_row.ensures)

pub returns-in-CheckWrite : goal.returns-in-CheckWrite
returns-in-CheckWrite c =
    let m = c.args.folder.now in
    let a = plain_values c.args.args.now in
    rw c.in-CheckWrite.is (IfOk-weaker c.discard_row.result _ _ (λ row says. λ f v. told_same f m row _ (says f (record v { scratch = m }) Always a refl ∙ ap (λ k. output_row k (record v { scratch = m }) Always a) c.in-CheckWrite.is)) c.discard_row.ensures)

pub returns-in-Flush : goal.returns-in-Flush
returns-in-Flush c =
    let m = c.args.folder.now in
    let a = plain_values c.args.args.now in
    rw c.in-Flush.is (IfOk-weaker c.discard_row-in-Flush.result _ _ (λ row says. λ f v. told_same f m row _ (says f (record v { scratch = m }) Always a refl ∙ ap (λ k. output_row k (record v { scratch = m }) Always a) c.in-Flush.is)) c.discard_row-in-Flush.ensures)

pub returns-in-Splice : goal.returns-in-Splice
returns-in-Splice c =
    let m = c.args.folder.now in
    let a = plain_values c.args.args.now in
    rw c.in-Splice.is (IfOk-weaker c.discard_row-in-Splice.result _ _ (λ row says. λ f v. told_same f m row _ (says f (record v { scratch = m }) Always a refl ∙ ap (λ k. output_row k (record v { scratch = m }) Always a) c.in-Splice.is)) c.discard_row-in-Splice.ensures)

pub returns-in-Subscribe : goal.returns-in-Subscribe
returns-in-Subscribe c =
    let m = c.args.folder.now in
    let a = plain_values c.args.args.now in
    rw c.in-Subscribe.is (IfOk-weaker c.discard_row-in-Subscribe.result _ _ (λ row says. λ f v. told_same f m row _ (says f (record v { scratch = m }) Always a refl ∙ ap (λ k. output_row k (record v { scratch = m }) Always a) c.in-Subscribe.is)) c.discard_row-in-Subscribe.ensures)
