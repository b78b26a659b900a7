use Rattle.std.proofs.Common.{ap, ◌∙◌}
use Rattle.std.proofs.lemmas.Result.{IfOk-weaker}
use Rattle.reference_step.specs.Descriptors as descriptor
use Rattle.reference_step.specs.Handles.{ScratchRoot}
use Rattle.reference_step.specs.State.{returns as returning}
use Rattle.ref_rules.specs.Lives.{is_open}
use Rattle.ref_scratch.specs.Told.{settled}
use Rattle.ref_virtual.proofs.ToldLemmas.{told_same}
use Rattle.ref_virtual.proofs.roots.change_row.Goals as goal

pub returns-in-WriteViaStream : goal.returns-in-WriteViaStream
returns-in-WriteViaStream c =
    let m = c.args.folder.now in
    rw c.in-WriteViaStream.is (IfOk-weaker c.fails.result _ _ (λ row says. λ f v. told_same f m row _ (says f)) c.fails.ensures)

pub returns-in-AppendViaStream : goal.returns-in-AppendViaStream
returns-in-AppendViaStream c =
    let m = c.args.folder.now in
    rw c.in-AppendViaStream.is (IfOk-weaker c.fails-in-AppendViaStream.result _ _ (λ row says. λ f v. told_same f m row _ (says f)) c.fails-in-AppendViaStream.ensures)

pub returns-in-SetSize : goal.returns-in-SetSize
returns-in-SetSize c =
    let m = c.args.folder.now in
    rw c.in-SetSize.is (IfOk-weaker c.fails-in-SetSize.result _ _ (λ row says. λ f v. told_same f m row _ (says f)) c.fails-in-SetSize.ensures)

pub returns-in-SetTimes : goal.returns-in-SetTimes
returns-in-SetTimes c = rw c.in-SetTimes.is (λ f v. told_same f c.args.folder.now c.returns.result _ (c.returns.ensures f ∙ ap returning c.done.ensures))

pub returns-in-Write : goal.returns-in-Write
returns-in-Write c =
    let m = c.args.folder.now in
    rw c.in-Write.is (IfOk-weaker c.fails-in-Write.result _ _ (λ row says. λ f v. told_same f m row _ (says f)) c.fails-in-Write.ensures)

pub returns-in-CreateDirectoryAt : goal.returns-in-CreateDirectoryAt
returns-in-CreateDirectoryAt c =
    let m = c.args.folder.now in
    rw c.in-CreateDirectoryAt.is (IfOk-weaker c.fails-in-CreateDirectoryAt.result _ _ (λ row says. λ f v. told_same f m row _ (says f)) c.fails-in-CreateDirectoryAt.ensures)

pub returns-in-RemoveDirectoryAt : goal.returns-in-RemoveDirectoryAt
returns-in-RemoveDirectoryAt c =
    let m = c.args.folder.now in
    rw c.in-RemoveDirectoryAt.is (IfOk-weaker c.remove_directory_row.result _ _ (λ row says. λ f v. told_same f m row _ (says f v ∙ ap (descriptor.remove-directory-at (record v { scratch = m }) ScratchRoot) c.text_at.ensures)) c.remove_directory_row.ensures)

pub returns-in-UnlinkFileAt : goal.returns-in-UnlinkFileAt
returns-in-UnlinkFileAt c =
    let m = c.args.folder.now in
    rw c.in-UnlinkFileAt.is (IfOk-weaker c.unlink_row.result _ _ (λ row says. λ f v. says f v ∙ ap (λ t. settled m (descriptor.unlink-file-at (record v { scratch = m; held = λ k. is_open c.args.live.now.handles k }) ScratchRoot t)) c.text_at-in-UnlinkFileAt.ensures) c.unlink_row.ensures)

pub returns-in-SymlinkAt : goal.returns-in-SymlinkAt
returns-in-SymlinkAt c =
    let m = c.args.folder.now in
    rw c.in-SymlinkAt.is (IfOk-weaker c.fails-in-SymlinkAt.result _ _ (λ row says. λ f v. told_same f m row _ (says f)) c.fails-in-SymlinkAt.ensures)

pub returns-in-SetTimesAt : goal.returns-in-SetTimesAt
returns-in-SetTimesAt c =
    let m = c.args.folder.now in
    rw c.in-SetTimesAt.is (IfOk-weaker c.set_times_at_row.result _ _ (λ row says. λ f v. told_same f m row _ (says f v ∙ ap (descriptor.set-times-at (record v { scratch = m }) ScratchRoot) c.text_at-in-SetTimesAt.ensures)) c.set_times_at_row.ensures)
