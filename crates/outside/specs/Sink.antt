-- What a `Sink` means: its count of faults, and the bytes written where it tells them.
use Rattle.std.specs.Prelude.{ℕ, ◌+◌, ◌≤◌, ◌≡◌, ◌++◌, List, Bool, true, false, Result, is_err, OnOk, OnErr, length, take, nat_lt}
use Rattle.outside.specs.Fault.{Rose}
use Rattle.outside.specs.declared.sink.PutFailed.{PutFailed}

-- the bytes, the room and whether the sink is steady count only where they are told
pub record SinkState : Type 0 where
  pub faults : ℕ
  pub told : Bool
  pub steady : Bool
  pub bytes : List ℕ
  pub room : ℕ

-- with these bytes the list would become longer than the room
abbrev pub is_full : SinkState → List ℕ → Bool
is_full s bytes = nat_lt s.room (length s.bytes + length bytes)

pub record Puts (bytes : List ℕ) (s t : SinkState) (r : Result (Unit {0}) PutFailed) : Type 0 where
  pub later : s.faults ≤ t.faults
  pub told : t.told ≡ s.told
  pub steady : s.steady ≡ true → t.steady ≡ true
  pub room : t.room ≡ s.room
  pub cause : OnErr r (Rose s.faults t.faults)
  pub ok : OnOk r (s.told ≡ true → t.bytes ≡ s.bytes ++ bytes)
  -- a prefix of the bytes was written
  pub failed : OnErr r (s.told ≡ true → (k : ℕ) × (t.bytes ≡ s.bytes ++ take k bytes))
  -- over a steady sink the call fails exactly where the room is passed, and the count rises only there
  pub fails : s.told ≡ true → s.steady ≡ true → is_err r ≡ is_full s bytes
  pub quiet : s.told ≡ true → s.steady ≡ true → is_full s bytes ≡ false → t.faults ≡ s.faults
