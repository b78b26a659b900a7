-- The row of a method that has a WIT name, by what its first handle stands for.
use Rattle.std.specs.Prelude.{Option, Some, None}
use Rattle.wit_types.specs.PlainValue.{PlainValues}
use Rattle.reference_step.specs.Handles.{Content}
use Rattle.reference_step.specs.State.{View, Row, Traps}
use Rattle.reference_step.specs.Rows.{handle, number, text, flags, bytes}
use Rattle.reference_step.specs.InputStreams as input
use Rattle.reference_step.specs.OutputStreams as output
use Rattle.reference_step.specs.Descriptors as descriptor
use Rattle.reference_step.specs.EntryStreams as entries
use Rattle.ref_virtual.specs.declared.methods.Look.{Look}
use Rattle.ref_virtual.specs.declared.methods.Look.TheVariants.{ReadViaStream, GetFlags, GetType, Read, ReadDirectory, Stat, StatAt, OpenAt, ReadlinkAt, MetadataHash, MetadataHashAt}
use Rattle.ref_virtual.specs.declared.methods.Change.{Change}
use Rattle.ref_virtual.specs.declared.methods.Change.TheVariants.{WriteViaStream, AppendViaStream, SetSize, SetTimes, Write, CreateDirectoryAt, RemoveDirectoryAt, UnlinkFileAt, SymlinkAt, SetTimesAt}
use Rattle.ref_virtual.specs.declared.methods.Pair.{Pair}
use Rattle.ref_virtual.specs.declared.methods.Pair.TheVariants.{LinkAt, RenameAt, IsSameObject}
use Rattle.ref_virtual.specs.declared.methods.Method.{Method}
use Rattle.ref_virtual.specs.declared.methods.Method.TheVariants.{Looks, Changes, Pairs, Syncs, ReadDirectoryEntry}
use Rattle.ref_virtual.specs.declared.stream_methods.InputMethod.{InputMethod}
use Rattle.ref_virtual.specs.declared.stream_methods.InputMethod.TheVariants.{Read as ReadStream, Skip, Subscribe}
use Rattle.ref_virtual.specs.declared.stream_methods.OutputMethod.{OutputMethod}
use Rattle.ref_virtual.specs.declared.stream_methods.OutputMethod.TheVariants.{CheckWrite, Write as WriteStream, Flush, WriteZeroes, Splice, Subscribe as SubscribeOut}
use Rattle.ref_virtual.specs.declared.stream_methods.StreamMethod.{StreamMethod}
use Rattle.ref_virtual.specs.declared.stream_methods.StreamMethod.TheVariants.{Input, Output}

-- ---- wasi:filesystem/types

abbrev pub look_row : Look → View → Content → PlainValues → Row
look_row ReadViaStream v c a = descriptor.read-via-stream v c (number 1 a)
look_row GetFlags v c a = descriptor.get-flags c
look_row GetType v c a = descriptor.get-type v c
look_row Read v c a = descriptor.read v c (number 1 a) (number 2 a)
look_row ReadDirectory v c a = descriptor.read-directory v c
look_row Stat v c a = descriptor.stat v c
look_row StatAt v c a = descriptor.stat-at v c (flags 1 a) (text 2 a)
look_row OpenAt v c a = descriptor.open-at v c (flags 1 a) (text 2 a) (flags 3 a) (flags 4 a)
look_row ReadlinkAt v c a = descriptor.readlink-at v c (text 1 a)
look_row MetadataHash v c a = descriptor.metadata-hash v c
look_row MetadataHashAt v c a = descriptor.metadata-hash-at v c (flags 1 a) (text 2 a)

abbrev pub change_row : Change → View → Content → PlainValues → Row
change_row WriteViaStream v c a = descriptor.write-via-stream v c (number 1 a)
change_row AppendViaStream v c a = descriptor.append-via-stream v c
change_row SetSize v c a = descriptor.set-size v c (number 1 a)
change_row SetTimes v c a = descriptor.set-times c
change_row Write v c a = descriptor.write v c (bytes 1 a) (number 2 a)
change_row CreateDirectoryAt v c a = descriptor.create-directory-at c
change_row RemoveDirectoryAt v c a = descriptor.remove-directory-at v c (text 1 a)
change_row UnlinkFileAt v c a = descriptor.unlink-file-at v c (text 1 a)
change_row SymlinkAt v c a = descriptor.create-directory-at c
change_row SetTimesAt v c a = descriptor.set-times-at v c (text 2 a)

abbrev pub pair_row : Pair → View → Content → PlainValues → Row
pair_row LinkAt v c a = descriptor.link-at c (handle v 3 a)
pair_row RenameAt v c a = descriptor.rename-at v c (handle v 2 a) (text 1 a) (text 3 a)
pair_row IsSameObject v c a = descriptor.is-same-object c (handle v 1 a)

abbrev pub method_row : Method → View → Content → PlainValues → Row
method_row (Looks look) v c a = look_row look v c a
method_row (Changes change) v c a = change_row change v c a
method_row (Pairs pair) v c a = pair_row pair v c a
method_row Syncs v c a = descriptor.advise
method_row ReadDirectoryEntry v c a = entries.read-directory-entry v c

-- ---- wasi:io/streams

abbrev pub input_row : InputMethod → View → Content → PlainValues → Row
input_row ReadStream v c a = input.read v c (number 1 a)
input_row Skip v c a = input.skip v c (number 1 a)
input_row Subscribe v c a = input.subscribe

abbrev pub output_row : OutputMethod → View → Content → PlainValues → Row
output_row CheckWrite v c a = output.check-write
output_row WriteStream v c a = output.write v c (bytes 1 a)
output_row Flush v c a = output.flush
output_row WriteZeroes v c a = output.write-zeroes v c (number 1 a)
output_row Splice v c a = output.splice
output_row SubscribeOut v c a = output.subscribe

abbrev pub stream_row : StreamMethod → View → Content → PlainValues → Row
stream_row (Input method) v c a = input_row method v c a
stream_row (Output method) v c a = output_row method v c a

-- ---- a name that is none traps

abbrev pub row_by : {M : Type 0} → (M → View → Content → PlainValues → Row) → Option M → View → Content → PlainValues → Row
row_by row None v c a = Traps
row_by row (Some method) v c a = row method v c a
