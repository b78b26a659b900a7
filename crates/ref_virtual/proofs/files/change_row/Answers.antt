use Rattle.std.proofs.Common.{ap, ◌∙◌}
use Rattle.std.proofs.lemmas.Result.{IfOk-weaker}
use Rattle.reference_step.specs.Descriptors as descriptor
use Rattle.reference_step.specs.Handles.{ScratchFile}
use Rattle.reference_step.specs.State.{returns as returning}
use Rattle.ref_scratch.specs.Told.{settled}
use Rattle.ref_virtual.proofs.ToldLemmas.{told_same}
use Rattle.ref_virtual.proofs.files.change_row.Goals as goal

pub returns-in-WriteViaStream : goal.returns-in-WriteViaStream
returns-in-WriteViaStream c =
    let at = ScratchFile c.args.file c.args.may_write in
    let m = c.args.folder.now in
    rw c.in-WriteViaStream.is (IfOk-weaker c.output_row.result _ _ (λ row says. λ f v. told_same f m row _ (says f (record v { scratch = m }) ∙ ap (descriptor.write-via-stream (record v { scratch = m }) at) c.number_at.ensures)) c.output_row.ensures)

pub returns-in-AppendViaStream : goal.returns-in-AppendViaStream
returns-in-AppendViaStream c =
    let at = ScratchFile c.args.file c.args.may_write in
    let m = c.args.folder.now in
    rw c.in-AppendViaStream.is (IfOk-weaker c.append_row.result _ _ (λ row says. λ f v. told_same f m row _ (says f (record v { scratch = m }))) c.append_row.ensures)

pub returns-in-SetSize : goal.returns-in-SetSize
returns-in-SetSize c =
    let at = ScratchFile c.args.file c.args.may_write in
    let m = c.args.folder.now in
    rw c.in-SetSize.is (IfOk-weaker c.set_size_row.result _ _ (λ row says. λ f v. says f v ∙ ap (λ n. settled m (descriptor.set-size (record v { scratch = m }) at n)) c.number_at-in-SetSize.ensures) c.set_size_row.ensures)

pub returns-in-SetTimes : goal.returns-in-SetTimes
returns-in-SetTimes c = rw c.in-SetTimes.is (λ f v. told_same f c.args.folder.now c.returns.result _ (c.returns.ensures f ∙ ap returning c.done.ensures))

pub returns-in-Write : goal.returns-in-Write
returns-in-Write c =
    let at = ScratchFile c.args.file c.args.may_write in
    let m = c.args.folder.now in
    rw c.in-Write.is (IfOk-weaker c.write_at_row.result _ _ (λ row says. λ f v. says f v) c.write_at_row.ensures)

pub returns-in-CreateDirectoryAt : goal.returns-in-CreateDirectoryAt
returns-in-CreateDirectoryAt c =
    let at = ScratchFile c.args.file c.args.may_write in
    let m = c.args.folder.now in
    rw c.in-CreateDirectoryAt.is (IfOk-weaker c.fails.result _ _ (λ row says. λ f v. told_same f m row _ (says f)) c.fails.ensures)

pub returns-in-RemoveDirectoryAt : goal.returns-in-RemoveDirectoryAt
returns-in-RemoveDirectoryAt c =
    let at = ScratchFile c.args.file c.args.may_write in
    let m = c.args.folder.now in
    rw c.in-RemoveDirectoryAt.is (IfOk-weaker c.fails-in-RemoveDirectoryAt.result _ _ (λ row says. λ f v. told_same f m row _ (says f)) c.fails-in-RemoveDirectoryAt.ensures)

pub returns-in-UnlinkFileAt : goal.returns-in-UnlinkFileAt
returns-in-UnlinkFileAt c =
    let at = ScratchFile c.args.file c.args.may_write in
    let m = c.args.folder.now in
    rw c.in-UnlinkFileAt.is (IfOk-weaker c.fails-in-UnlinkFileAt.result _ _ (λ row says. λ f v. told_same f m row _ (says f)) c.fails-in-UnlinkFileAt.ensures)

pub returns-in-SymlinkAt : goal.returns-in-SymlinkAt
returns-in-SymlinkAt c =
    let at = ScratchFile c.args.file c.args.may_write in
    let m = c.args.folder.now in
    rw c.in-SymlinkAt.is (IfOk-weaker c.fails-in-SymlinkAt.result _ _ (λ row says. λ f v. told_same f m row _ (says f)) c.fails-in-SymlinkAt.ensures)

pub returns-in-SetTimesAt : goal.returns-in-SetTimesAt
returns-in-SetTimesAt c =
    let at = ScratchFile c.args.file c.args.may_write in
    let m = c.args.folder.now in
    rw c.in-SetTimesAt.is (IfOk-weaker c.fails-in-SetTimesAt.result _ _ (λ row says. λ f v. told_same f m row _ (says f)) c.fails-in-SetTimesAt.ensures)
