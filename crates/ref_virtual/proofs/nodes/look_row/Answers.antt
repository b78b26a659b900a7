use Rattle.std.proofs.Common.{ap, ◌∙◌}
use Rattle.std.proofs.Math.Path.{ap₂}
use Rattle.std.proofs.lemmas.Result.{IfOk-weaker}
use Rattle.reference_step.specs.Descriptors as descriptor
use Rattle.ref_virtual.specs.Views.{node_in}
use Rattle.tree_table.specs.Tables.{count_of}
use Rattle.ref_virtual.proofs.FilesInsideLemmas.{row_fixed}
use Rattle.ref_virtual.proofs.nodes.look_row.Goals as goal

pub returns-in-ReadViaStream-clause-row : goal.returns-in-ReadViaStream-clause-row
returns-in-ReadViaStream-clause-row c =
    let at = node_in c.args.table.now c.args.node in
    rw c.in-ReadViaStream.is (IfOk-weaker c.stream_row.result _ _ (λ row says. λ v h. says v h ∙ ap (descriptor.read-via-stream v at) c.number_at.ensures) c.stream_row.ensures.row)

pub returns-in-GetType-clause-row : goal.returns-in-GetType-clause-row
returns-in-GetType-clause-row c = rw c.in-GetType.is c.type_row.ensures.row

pub returns-in-Read-clause-row : goal.returns-in-Read-clause-row
returns-in-Read-clause-row c =
    let at = node_in c.args.table.now c.args.node in
    rw c.in-Read.is (IfOk-weaker c.read_row.result _ _ (λ row says. λ v h. says v h ∙ ap₂ (descriptor.read v at) c.number_at-in-Read.ensures c.number_at-in-Read-2.ensures) c.read_row.ensures.row)

pub returns-in-ReadDirectory-clause-row : goal.returns-in-ReadDirectory-clause-row
returns-in-ReadDirectory-clause-row c = rw c.in-ReadDirectory.is c.read_directory_row.ensures.row

pub returns-in-Stat-clause-row : goal.returns-in-Stat-clause-row
returns-in-Stat-clause-row c = rw c.in-Stat.is c.stat_row.ensures.row

pub returns-in-StatAt-clause-row : goal.returns-in-StatAt-clause-row
returns-in-StatAt-clause-row c =
    let at = node_in c.args.table.now c.args.node in
    rw c.in-StatAt.is (IfOk-weaker c.stat_at_row.result _ _ (λ row says. λ v h. says v h ∙ ap₂ (descriptor.stat-at v at) c.flags_at.ensures c.bytes_at.ensures) c.stat_at_row.ensures.row)

pub returns-in-OpenAt-clause-row : goal.returns-in-OpenAt-clause-row
returns-in-OpenAt-clause-row c = rw c.in-OpenAt.is c.open_at_row.ensures.row

pub returns-in-ReadlinkAt-clause-row : goal.returns-in-ReadlinkAt-clause-row
returns-in-ReadlinkAt-clause-row c =
    let at = node_in c.args.table.now c.args.node in
    rw c.in-ReadlinkAt.is (IfOk-weaker c.readlink_row.result _ _ (λ row says. λ v h. says v h ∙ ap (descriptor.readlink-at v at) c.bytes_at-in-ReadlinkAt.ensures) c.readlink_row.ensures.row)

pub returns-in-MetadataHash-clause-row : goal.returns-in-MetadataHash-clause-row
returns-in-MetadataHash-clause-row c = rw c.in-MetadataHash.is c.hash_row.ensures.row

pub returns-in-MetadataHashAt-clause-row : goal.returns-in-MetadataHashAt-clause-row
returns-in-MetadataHashAt-clause-row c =
    let at = node_in c.args.table.now c.args.node in
    rw c.in-MetadataHashAt.is (IfOk-weaker c.hash_at_row.result _ _ (λ row says. λ v h. says v h ∙ ap₂ (descriptor.metadata-hash-at v at) c.flags_at-in-MetadataHashAt.ensures c.bytes_at-in-MetadataHashAt.ensures) c.hash_at_row.ensures.row)

pub returns-in_ok-ok-in-GetFlags-clause-inside : goal.returns-in_ok-ok-in-GetFlags-clause-inside
returns-in_ok-ok-in-GetFlags-clause-inside c = row_fixed c.returns.result _ (count_of c.args.table.now) c.returns.ensures
