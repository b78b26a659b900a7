use Rattle.std.proofs.Common.{ap, ◌∙◌}
use Rattle.std.proofs.Math.Path.{ap₂}
use Rattle.std.proofs.lemmas.Result.{IfOk-weaker}
use Rattle.reference_step.specs.Descriptors as descriptor
use Rattle.reference_step.specs.Handles.{ScratchFile}
use Rattle.ref_virtual.proofs.files.look_row.Goals as goal

pub returns-in-ReadViaStream : goal.returns-in-ReadViaStream
returns-in-ReadViaStream c =
    let w = c.args.may_write in
    let at = ScratchFile c.args.file w in
    let m = c.args.folder.now in
    rw c.in-ReadViaStream.is (IfOk-weaker c.input_row.result _ _ (λ row says. λ f v t. says f (record v { scratch = m }) w ∙ ap (descriptor.read-via-stream (record v { scratch = m }) at) c.number_at.ensures) c.input_row.ensures)

pub returns-in-GetFlags : goal.returns-in-GetFlags
returns-in-GetFlags c =
    let w = c.args.may_write in
    let at = ScratchFile c.args.file w in
    let m = c.args.folder.now in
    rw c.in-GetFlags.is (IfOk-weaker c.file_flags_row.result _ _ (λ row says. λ f v t. says f c.args.file) c.file_flags_row.ensures)

pub returns-in-GetType : goal.returns-in-GetType
returns-in-GetType c =
    let w = c.args.may_write in
    let at = ScratchFile c.args.file w in
    let m = c.args.folder.now in
    rw c.in-GetType.is (IfOk-weaker c.file_type_row.result _ _ (λ row says. λ f v t. says f (record v { scratch = m }) c.args.file w) c.file_type_row.ensures)

pub returns-in-Read : goal.returns-in-Read
returns-in-Read c =
    let w = c.args.may_write in
    let at = ScratchFile c.args.file w in
    let m = c.args.folder.now in
    rw c.in-Read.is (IfOk-weaker c.read_row.result _ _ (λ row says. λ f v t. says f v w ∙ ap₂ (descriptor.read (record v { scratch = m }) at) c.number_at-in-Read.ensures c.number_at-in-Read-2.ensures) c.read_row.ensures)

pub returns-in-ReadDirectory : goal.returns-in-ReadDirectory
returns-in-ReadDirectory c =
    let w = c.args.may_write in
    let at = ScratchFile c.args.file w in
    let m = c.args.folder.now in
    rw c.in-ReadDirectory.is (IfOk-weaker c.fails.result _ _ (λ row says. λ f v t. says f) c.fails.ensures)

pub returns-in-Stat : goal.returns-in-Stat
returns-in-Stat c =
    let w = c.args.may_write in
    let at = ScratchFile c.args.file w in
    let m = c.args.folder.now in
    rw c.in-Stat.is (IfOk-weaker c.stat_file_row.result _ _ (λ row says. λ f v t. says f v) c.stat_file_row.ensures)

pub returns-in-StatAt : goal.returns-in-StatAt
returns-in-StatAt c =
    let w = c.args.may_write in
    let at = ScratchFile c.args.file w in
    let m = c.args.folder.now in
    rw c.in-StatAt.is (IfOk-weaker c.fails-in-StatAt.result _ _ (λ row says. λ f v t. says f) c.fails-in-StatAt.ensures)

pub returns-in-OpenAt : goal.returns-in-OpenAt
returns-in-OpenAt c =
    let w = c.args.may_write in
    let at = ScratchFile c.args.file w in
    let m = c.args.folder.now in
    rw c.in-OpenAt.is (IfOk-weaker c.fails-in-OpenAt.result _ _ (λ row says. λ f v t. says f) c.fails-in-OpenAt.ensures)

pub returns-in-ReadlinkAt : goal.returns-in-ReadlinkAt
returns-in-ReadlinkAt c =
    let w = c.args.may_write in
    let at = ScratchFile c.args.file w in
    let m = c.args.folder.now in
    rw c.in-ReadlinkAt.is (IfOk-weaker c.fails-in-ReadlinkAt.result _ _ (λ row says. λ f v t. says f) c.fails-in-ReadlinkAt.ensures)

pub returns-in-MetadataHash : goal.returns-in-MetadataHash
returns-in-MetadataHash c =
    let w = c.args.may_write in
    let at = ScratchFile c.args.file w in
    let m = c.args.folder.now in
    rw c.in-MetadataHash.is (IfOk-weaker c.hash_file_row.result _ _ (λ row says. λ f v t. says f v t) c.hash_file_row.ensures)

pub returns-in-MetadataHashAt : goal.returns-in-MetadataHashAt
returns-in-MetadataHashAt c =
    let w = c.args.may_write in
    let at = ScratchFile c.args.file w in
    let m = c.args.folder.now in
    rw c.in-MetadataHashAt.is (IfOk-weaker c.fails-in-MetadataHashAt.result _ _ (λ row says. λ f v t. says f) c.fails-in-MetadataHashAt.ensures)
