-- Bytes with a room that they may fill.
use Rattle.std.specs.Prelude.{ℕ, ◌-◌, ◌++◌, List, length, take}

pub record Filled : Type 0 where
  pub bytes : List ℕ
  pub room : ℕ

-- as many of the bytes as fit stand at the end
abbrev pub fill : Filled → List ℕ → Filled
fill f more = record f { bytes = f.bytes ++ take (f.room - length f.bytes) more }
