-- wasi:io/streams, resource input-stream: what its methods do where the stream is not the host's.
use Rattle.std.specs.Prelude.{ℕ, ◌+◌, nat_le, List, length, if◌then◌else◌}
use Rattle.tree_table.specs.Scratches.{content_at, read_at}
use Rattle.reference_step.specs.Handles.{Content, FileAt, Always, ScratchIn}
use Rattle.reference_step.specs.Values.{number, numbers, ok, closed}
use Rattle.reference_step.specs.Nodes.{bytes_at}
use Rattle.reference_step.specs.State.{View, Row, returns, gives, moves}

-- the next bytes from a place on; at the end the stream is closed
abbrev pub reads : List ℕ → ℕ → ℕ → (ℕ → Content) → Row
reads bytes place len at = if nat_le (length bytes) place then returns closed else moves (at (place + length (read_at bytes place len))) (ok (numbers (read_at bytes place len)))

abbrev pub skips : List ℕ → ℕ → ℕ → (ℕ → Content) → Row
skips bytes place len at = if nat_le (length bytes) place then returns closed else moves (at (place + length (read_at bytes place len))) (ok (number (length (read_at bytes place len))))

-- read, blocking-read
abbrev pub read : View → Content → ℕ → Row
read v (FileAt tree path place) len = reads (bytes_at v.trees tree path) place len (FileAt tree path)
read v (ScratchIn file place) len = reads (content_at v.scratch file) place len (ScratchIn file)
read v _ len = returns closed

-- skip, blocking-skip
abbrev pub skip : View → Content → ℕ → Row
skip v (FileAt tree path place) len = skips (bytes_at v.trees tree path) place len (FileAt tree path)
skip v (ScratchIn file place) len = skips (content_at v.scratch file) place len (ScratchIn file)
skip v _ len = returns closed

abbrev pub subscribe : Row
subscribe = gives Always
