-- Lines that are put one after another.
use Rattle.std.specs.Prelude.{ℕ, ◌≡◌, ◌≤◌, ◌+◌, List, [], ◌∷◌, ◌++◌, true, false, Result, is_err, OnOk, OnErr, take, drop}
use Rattle.outside.specs.Fault.{Rose}
use Rattle.outside.specs.Sink.{SinkState, is_full}
use Rattle.outside.specs.declared.sink.PutFailed.{PutFailed}

-- a text cut into lines of these sizes, one after another
abbrev pub cut : List ℕ → List ℕ → List (List ℕ)
cut [] text = []
cut (size ∷ sizes) text = take size text ∷ cut sizes (drop size text)

abbrev pub total : List ℕ → ℕ
total [] = 0
total (size ∷ sizes) = size + total sizes

abbrev pub text_of : List (List ℕ) → List ℕ
text_of [] = []
text_of (line ∷ lines) = line ++ text_of lines

-- All of a text was put, or a prefix of it and a fault came; over a steady sink with room for it no put fails.
pub record PutsAll (text : List ℕ) (s t : SinkState) (r : Result (Unit {0}) PutFailed) : Type 0 where
  pub later : s.faults ≤ t.faults
  pub told : t.told ≡ s.told
  pub steady : s.steady ≡ true → t.steady ≡ true
  pub room : t.room ≡ s.room
  pub cause : OnErr r (Rose s.faults t.faults)
  pub ok : OnOk r (s.told ≡ true → t.bytes ≡ s.bytes ++ text)
  pub failed : OnErr r (s.told ≡ true → (k : ℕ) × (t.bytes ≡ s.bytes ++ take k text))
  pub quiet : s.told ≡ true → s.steady ≡ true → is_full s text ≡ false → (t.faults ≡ s.faults) × (is_err r ≡ false)
