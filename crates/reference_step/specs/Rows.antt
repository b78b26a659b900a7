-- The rows by the names of their functions. The handle of a method is its first argument.
use Rattle.std.specs.Prelude.{ℕ, List, [], ◌∷◌, codes, find, slice_index_or, Option, Some, None}
use Rattle.std.specs.Str.{bytes_eq}
use Rattle.wit_types.specs.Plain.{Name}
use Rattle.wit_types.specs.PlainValue.{PlainValues}
use Rattle.reference_step.specs.Handles.{Content}
use Rattle.reference_step.specs.Values.{nth, number_in, text_in, bits_in, id_in, numbers_in}
use Rattle.reference_step.specs.State.{View, Row, Traps}
use Rattle.reference_step.specs.InputStreams as input
use Rattle.reference_step.specs.OutputStreams as output
use Rattle.reference_step.specs.Pollables as pollables
use Rattle.reference_step.specs.Environment as environment
use Rattle.reference_step.specs.Clocks as clocks
use Rattle.reference_step.specs.Stdio as stdio
use Rattle.reference_step.specs.Descriptors as descriptor
use Rattle.reference_step.specs.EntryStreams as entries

-- a function's name, and its row over what it reads and its arguments
abbrev pub Named : Type 0
Named = Name × (View → PlainValues → Row)

-- ---- arguments by their places

abbrev pub handle : View → ℕ → PlainValues → Content
handle v place args = v.content (id_in (nth place args))

abbrev pub number : ℕ → PlainValues → ℕ
number place args = number_in (nth place args)

abbrev pub text : ℕ → PlainValues → List ℕ
text place args = text_in (nth place args)

abbrev pub flags : ℕ → PlainValues → ℕ
flags place args = bits_in (nth place args)

abbrev pub bytes : ℕ → PlainValues → List ℕ
bytes place args = numbers_in (nth place args)

-- ---- the rows of each interface that has some

abbrev pub poll_rows : List Named
poll_rows =
    (codes "[method]pollable.ready", λ v a. pollables.ready)
    ∷ (codes "[method]pollable.block", λ v a. pollables.block)
    ∷ (codes "poll", λ v a. pollables.poll v (nth 0 a))
    ∷ []

abbrev pub stream_rows : List Named
stream_rows =
    (codes "[method]input-stream.read", λ v a. input.read v (handle v 0 a) (number 1 a))
    ∷ (codes "[method]input-stream.blocking-read", λ v a. input.read v (handle v 0 a) (number 1 a))
    ∷ (codes "[method]input-stream.skip", λ v a. input.skip v (handle v 0 a) (number 1 a))
    ∷ (codes "[method]input-stream.blocking-skip", λ v a. input.skip v (handle v 0 a) (number 1 a))
    ∷ (codes "[method]input-stream.subscribe", λ v a. input.subscribe)
    ∷ (codes "[method]output-stream.check-write", λ v a. output.check-write)
    ∷ (codes "[method]output-stream.write", λ v a. output.write v (handle v 0 a) (bytes 1 a))
    ∷ (codes "[method]output-stream.blocking-write-and-flush", λ v a. output.write v (handle v 0 a) (bytes 1 a))
    ∷ (codes "[method]output-stream.flush", λ v a. output.flush)
    ∷ (codes "[method]output-stream.blocking-flush", λ v a. output.flush)
    ∷ (codes "[method]output-stream.subscribe", λ v a. output.subscribe)
    ∷ (codes "[method]output-stream.write-zeroes", λ v a. output.write-zeroes v (handle v 0 a) (number 1 a))
    ∷ (codes "[method]output-stream.blocking-write-zeroes-and-flush", λ v a. output.write-zeroes v (handle v 0 a) (number 1 a))
    ∷ (codes "[method]output-stream.splice", λ v a. output.splice)
    ∷ (codes "[method]output-stream.blocking-splice", λ v a. output.splice)
    ∷ []

abbrev pub environment_rows : List Named
environment_rows =
    (codes "get-environment", λ v a. environment.get-environment v)
    ∷ (codes "get-arguments", λ v a. environment.get-arguments v)
    ∷ (codes "initial-cwd", λ v a. environment.initial-cwd v)
    ∷ []

abbrev pub stdin_rows : List Named
stdin_rows = (codes "get-stdin", λ v a. stdio.get-stdin) ∷ []

abbrev pub stdout_rows : List Named
stdout_rows = (codes "get-stdout", λ v a. stdio.get-stdout) ∷ []

abbrev pub stderr_rows : List Named
stderr_rows = (codes "get-stderr", λ v a. stdio.get-stdout) ∷ []

abbrev pub terminal_stdin_rows : List Named
terminal_stdin_rows = (codes "get-terminal-stdin", λ v a. stdio.get-terminal) ∷ []

abbrev pub terminal_stdout_rows : List Named
terminal_stdout_rows = (codes "get-terminal-stdout", λ v a. stdio.get-terminal) ∷ []

abbrev pub terminal_stderr_rows : List Named
terminal_stderr_rows = (codes "get-terminal-stderr", λ v a. stdio.get-terminal) ∷ []

abbrev pub wall_rows : List Named
wall_rows =
    (codes "now", λ v a. clocks.wall_now v)
    ∷ (codes "resolution", λ v a. clocks.wall_resolution)
    ∷ []

abbrev pub monotonic_rows : List Named
monotonic_rows =
    (codes "now", λ v a. clocks.monotonic_now v)
    ∷ (codes "resolution", λ v a. clocks.monotonic_resolution)
    ∷ (codes "subscribe-instant", λ v a. clocks.subscribe)
    ∷ (codes "subscribe-duration", λ v a. clocks.subscribe)
    ∷ []

abbrev pub filesystem_rows : List Named
filesystem_rows =
    (codes "[method]descriptor.read-via-stream", λ v a. descriptor.read-via-stream v (handle v 0 a) (number 1 a))
    ∷ (codes "[method]descriptor.write-via-stream", λ v a. descriptor.write-via-stream v (handle v 0 a) (number 1 a))
    ∷ (codes "[method]descriptor.append-via-stream", λ v a. descriptor.append-via-stream v (handle v 0 a))
    ∷ (codes "[method]descriptor.advise", λ v a. descriptor.advise)
    ∷ (codes "[method]descriptor.sync-data", λ v a. descriptor.advise)
    ∷ (codes "[method]descriptor.sync", λ v a. descriptor.advise)
    ∷ (codes "[method]descriptor.set-size", λ v a. descriptor.set-size v (handle v 0 a) (number 1 a))
    ∷ (codes "[method]descriptor.set-times", λ v a. descriptor.set-times (handle v 0 a))
    ∷ (codes "[method]descriptor.get-flags", λ v a. descriptor.get-flags (handle v 0 a))
    ∷ (codes "[method]descriptor.get-type", λ v a. descriptor.get-type v (handle v 0 a))
    ∷ (codes "[method]descriptor.read", λ v a. descriptor.read v (handle v 0 a) (number 1 a) (number 2 a))
    ∷ (codes "[method]descriptor.write", λ v a. descriptor.write v (handle v 0 a) (bytes 1 a) (number 2 a))
    ∷ (codes "[method]descriptor.read-directory", λ v a. descriptor.read-directory v (handle v 0 a))
    ∷ (codes "[method]descriptor.create-directory-at", λ v a. descriptor.create-directory-at (handle v 0 a))
    ∷ (codes "[method]descriptor.remove-directory-at", λ v a. descriptor.remove-directory-at v (handle v 0 a) (text 1 a))
    ∷ (codes "[method]descriptor.unlink-file-at", λ v a. descriptor.unlink-file-at v (handle v 0 a) (text 1 a))
    ∷ (codes "[method]descriptor.symlink-at", λ v a. descriptor.create-directory-at (handle v 0 a))
    ∷ (codes "[method]descriptor.stat", λ v a. descriptor.stat v (handle v 0 a))
    ∷ (codes "[method]descriptor.stat-at", λ v a. descriptor.stat-at v (handle v 0 a) (flags 1 a) (text 2 a))
    ∷ (codes "[method]descriptor.set-times-at", λ v a. descriptor.set-times-at v (handle v 0 a) (text 2 a))
    ∷ (codes "[method]descriptor.link-at", λ v a. descriptor.link-at (handle v 0 a) (handle v 3 a))
    ∷ (codes "[method]descriptor.rename-at", λ v a. descriptor.rename-at v (handle v 0 a) (handle v 2 a) (text 1 a) (text 3 a))
    ∷ (codes "[method]descriptor.open-at", λ v a. descriptor.open-at v (handle v 0 a) (flags 1 a) (text 2 a) (flags 3 a) (flags 4 a))
    ∷ (codes "[method]descriptor.readlink-at", λ v a. descriptor.readlink-at v (handle v 0 a) (text 1 a))
    ∷ (codes "[method]descriptor.is-same-object", λ v a. descriptor.is-same-object (handle v 0 a) (handle v 1 a))
    ∷ (codes "[method]descriptor.metadata-hash", λ v a. descriptor.metadata-hash v (handle v 0 a))
    ∷ (codes "[method]descriptor.metadata-hash-at", λ v a. descriptor.metadata-hash-at v (handle v 0 a) (flags 1 a) (text 2 a))
    ∷ (codes "[method]directory-entry-stream.read-directory-entry", λ v a. entries.read-directory-entry v (handle v 0 a))
    ∷ []

-- in the order of the interfaces; get-directories has a rule of its own
abbrev pub all_rows : List (List Named)
all_rows =
    []
    ∷ poll_rows
    ∷ stream_rows
    ∷ environment_rows
    ∷ []
    ∷ stdin_rows
    ∷ stdout_rows
    ∷ stderr_rows
    ∷ []
    ∷ []
    ∷ terminal_stdin_rows
    ∷ terminal_stdout_rows
    ∷ terminal_stderr_rows
    ∷ wall_rows
    ∷ monotonic_rows
    ∷ []
    ∷ []
    ∷ []
    ∷ filesystem_rows
    ∷ []

abbrev pub by_row : Option Named → View → PlainValues → Row
by_row None v args = Traps
by_row (Some row) v args = row.1 v args

-- what a function does that is answered without the host, by the number of its interface and its name
abbrev pub row_of : ℕ → Name → View → PlainValues → Row
row_of interface function v args = by_row (find (λ row. bytes_eq row.0 function) (slice_index_or all_rows interface [])) v args
