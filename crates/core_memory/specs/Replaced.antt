-- Lists of which a part is replaced, as the standard writes it (WebAssembly Core 2.0, section 4.2.1: `s with [i : n] = x*`).
use Rattle.std.specs.Prelude.{ℕ, ◌+◌, List, length, replicate}
use Rattle.std.specs.List.{splice}

-- the items from a place on are replaced by new ones
abbrev pub replaced : {X : Type 0} → List X → ℕ → List X → List X
replaced xs at new = splice xs at (at + length new) new

-- that many times one item
unfoldable pub repeated : {X : Type 0} → ℕ → X → List X
repeated n x = replicate n x
