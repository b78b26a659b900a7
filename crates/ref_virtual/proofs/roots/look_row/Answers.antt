use Rattle.std.proofs.Common.{ap, ◌∙◌}
use Rattle.std.proofs.Math.Path.{ap₂}
use Rattle.std.proofs.lemmas.Result.{IfOk-weaker}
use Rattle.reference_step.specs.Descriptors as descriptor
use Rattle.reference_step.specs.Handles.{ScratchRoot}
use Rattle.ref_virtual.proofs.ToldLemmas.{told_same}
use Rattle.ref_virtual.proofs.roots.look_row.Goals as goal

pub returns-in-ReadViaStream : goal.returns-in-ReadViaStream
returns-in-ReadViaStream c =
    let m = c.args.folder.now in
    rw c.in-ReadViaStream.is (IfOk-weaker c.fails.result _ _ (λ row says. λ f v t. told_same f m row _ (says f)) c.fails.ensures)

pub returns-in-GetFlags : goal.returns-in-GetFlags
returns-in-GetFlags c =
    let m = c.args.folder.now in
    rw c.in-GetFlags.is (IfOk-weaker c.root_flags_row.result _ _ (λ row says. λ f v t. told_same f m row _ (says f)) c.root_flags_row.ensures)

pub returns-in-GetType : goal.returns-in-GetType
returns-in-GetType c =
    let m = c.args.folder.now in
    rw c.in-GetType.is (IfOk-weaker c.root_type_row.result _ _ (λ row says. λ f v t. told_same f m row _ (says f v)) c.root_type_row.ensures)

pub returns-in-Read : goal.returns-in-Read
returns-in-Read c =
    let m = c.args.folder.now in
    rw c.in-Read.is (IfOk-weaker c.fails-in-Read.result _ _ (λ row says. λ f v t. told_same f m row _ (says f)) c.fails-in-Read.ensures)

pub returns-in-ReadDirectory : goal.returns-in-ReadDirectory
returns-in-ReadDirectory c =
    let m = c.args.folder.now in
    rw c.in-ReadDirectory.is (IfOk-weaker c.read_directory_row.result _ _ (λ row says. λ f v t. told_same f m row _ (says f v)) c.read_directory_row.ensures)

pub returns-in-Stat : goal.returns-in-Stat
returns-in-Stat c =
    let m = c.args.folder.now in
    rw c.in-Stat.is (IfOk-weaker c.stat_root_row.result _ _ (λ row says. λ f v t. told_same f m row _ (says f)) c.stat_root_row.ensures)

pub returns-in-StatAt : goal.returns-in-StatAt
returns-in-StatAt c =
    let m = c.args.folder.now in
    rw c.in-StatAt.is (IfOk-weaker c.stat_at_row.result _ _ (λ row says. λ f v t. told_same f m row _ (says f v ∙ ap₂ (descriptor.stat-at (record v { scratch = m }) ScratchRoot) c.flags_at.ensures c.text_at.ensures)) c.stat_at_row.ensures)

pub returns-in-OpenAt : goal.returns-in-OpenAt
returns-in-OpenAt c =
    let m = c.args.folder.now in
    rw c.in-OpenAt.is (IfOk-weaker c.open_at_row.result _ _ (λ row says. λ f v t. says f v) c.open_at_row.ensures)

pub returns-in-ReadlinkAt : goal.returns-in-ReadlinkAt
returns-in-ReadlinkAt c =
    let m = c.args.folder.now in
    rw c.in-ReadlinkAt.is (IfOk-weaker c.readlink_at_row.result _ _ (λ row says. λ f v t. told_same f m row _ (says f v ∙ ap (descriptor.readlink-at (record v { scratch = m }) ScratchRoot) c.text_at-in-ReadlinkAt.ensures)) c.readlink_at_row.ensures)

pub returns-in-MetadataHash : goal.returns-in-MetadataHash
returns-in-MetadataHash c =
    let m = c.args.folder.now in
    rw c.in-MetadataHash.is (IfOk-weaker c.hash_root_row.result _ _ (λ row says. λ f v t. told_same f m row _ (says f v t)) c.hash_root_row.ensures)

pub returns-in-MetadataHashAt : goal.returns-in-MetadataHashAt
returns-in-MetadataHashAt c =
    let m = c.args.folder.now in
    rw c.in-MetadataHashAt.is (IfOk-weaker c.hash_at_row.result _ _ (λ row says. λ f v t. told_same f m row _ (says f v t ∙ ap₂ (descriptor.metadata-hash-at (record v { scratch = m }) ScratchRoot) c.flags_at-in-MetadataHashAt.ensures c.text_at-in-MetadataHashAt.ensures)) c.hash_at_row.ensures)
