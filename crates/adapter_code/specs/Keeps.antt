-- What a write leaves as it was.
use Rattle.std.specs.Prelude.{◌≡◌, ℕ, ◌+◌, ◌<◌, ◌≤◌, List, length, slice_index_or}

-- every byte outside of this part stays as it was
pub record Keeps (old new : List ℕ) (from len : ℕ) : Type 0 where
  pub size : length new ≡ length old
  pub before : (k : ℕ) → k < from → slice_index_or new k 0 ≡ slice_index_or old k 0
  pub after : (k : ℕ) → from + len ≤ k → slice_index_or new k 0 ≡ slice_index_or old k 0
