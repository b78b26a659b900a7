-- wasi:io/streams, resource output-stream: what its methods do where a stream is not the host's.
use Rattle.std.specs.Prelude.{ℕ, ◌+◌, List, length, replicate, Option, Some, None, option_map, unwrap_or}
use Rattle.tree_table.specs.Scratches.{ScratchMap, content_at, written}
use Rattle.reference_step.specs.Handles.{Content, Always, ScratchOut}
use Rattle.reference_step.specs.Values.{number, ok, done, closed}
use Rattle.reference_step.specs.State.{View, Row, returns, gives, stores_and_moves}

abbrev pub check-write : Row
check-write = returns (ok (number 65536))

-- after a write; past the quota the stream is closed, and its place is as it was
abbrev pub wrote : ℕ → Option ℕ → ℕ → Option ScratchMap → Row
wrote file place len None = returns closed
wrote file place len (Some m) = stores_and_moves m (ScratchOut file (option_map (λ p. p + len) place)) done

-- write, blocking-write-and-flush: into a scratch file the bytes go at the stream's place, or at the end
abbrev pub write : View → Content → List ℕ → Row
write v (ScratchOut file place) bytes = wrote file place (length bytes) (written v.scratch file (unwrap_or place (length (content_at v.scratch file))) bytes)
write v _ bytes = returns done

-- write-zeroes, blocking-write-zeroes-and-flush: as a write of that many zeros
abbrev pub write-zeroes : View → Content → ℕ → Row
write-zeroes v (ScratchOut file place) len = wrote file place len (written v.scratch file (unwrap_or place (length (content_at v.scratch file))) (replicate len 0))
write-zeroes v _ len = returns done

-- flush, blocking-flush
abbrev pub flush : Row
flush = returns done

-- splice, blocking-splice: nothing moves
abbrev pub splice : Row
splice = returns closed

abbrev pub subscribe : Row
subscribe = gives Always
