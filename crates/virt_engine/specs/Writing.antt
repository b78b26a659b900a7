-- What becomes of a file that is written anew, piece by piece.
use Rattle.std.specs.Prelude.{ℕ, ◌≡◌, ◌≤◌, ◌⊎◌, List, true, false, Some, None, Result, is_err, OnOk, OnErr, length, take}
use Rattle.outside.specs.Fault.{Rose}
use Rattle.outside.specs.Files.{FilesState, Held, Goes, with_file, with_more, no_place, no_room}
use Rattle.outside.specs.declared.files.WriteFailed.{WriteFailed}

-- The bytes stand at the end of the name's file, or a prefix of them after a fault.
pub record Adds (name bytes : List ℕ) (s t : FilesState) (r : Result (Unit {0}) WriteFailed) : Type 0 where
  pub goes : Goes s t
  pub cause : OnErr r (Rose s.faults t.faults)
  pub ok : OnOk r (s.told ≡ true → t.held ≡ with_more s.held name bytes)
  pub failed : OnErr r (s.told ≡ true → (k : ℕ) × (t.held ≡ with_more s.held name (take k bytes)))
  pub quiet : s.told ≡ true → s.steady ≡ true → no_room s.held name bytes ≡ false → (t.faults ≡ s.faults) × (is_err r ≡ false)

-- what a failed write leaves: the name as it was, or absent, or with a prefix of the bytes
abbrev pub LeftOf : List ℕ → List ℕ → Held → Held → Type 0
LeftOf name bytes old new = (new ≡ old) ⊎ (new ≡ with_file old name None) ⊎ ((k : ℕ) × (new ≡ with_file old name (Some (take k bytes))))

-- The name's file is made, and holds the bytes; or a fault came, and it is left so.
pub record Writes (name bytes : List ℕ) (s t : FilesState) (r : Result (Unit {0}) WriteFailed) : Type 0 where
  pub goes : Goes s t
  pub cause : OnErr r (Rose s.faults t.faults)
  pub ok : OnOk r (s.told ≡ true → t.held ≡ with_file s.held name (Some bytes))
  pub failed : OnErr r (s.told ≡ true → LeftOf name bytes s.held t.held)
  -- over steady files a name that is there or noted, with room for the bytes, is written
  pub quiet : s.told ≡ true → s.steady ≡ true → no_place s.held name ≡ false → length bytes ≤ s.held.room name → (t.faults ≡ s.faults) × (is_err r ≡ false)
