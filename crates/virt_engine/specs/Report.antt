-- How the text of a status relates to the sink that it is put to.
use Rattle.std.specs.Prelude.{ℕ, ◌≡◌, ◌++◌, ◌⊎◌, List, true, false, take}
use Rattle.outside.specs.Fault.{Rose}
use Rattle.outside.specs.Sink.{SinkState, is_full}
use Rattle.virt_engine.specs.declared.status.Status.{Status}
use Rattle.virt_engine.specs.declared.status.Status.TheVariants.{PolicyRefused, AppRefused, FileFault, SinkFault, OverLimit, NoMemory, Usage, PlugRefused}

-- the whole text is there
pub record Written (due : Status) (text : List ℕ) (s t : SinkState) (result : Status) : Type 0 where
  pub status : result ≡ due
  pub bytes : s.told ≡ true → t.bytes ≡ s.bytes ++ text

-- the put failed, and a prefix of the text is there
pub record Broken (text : List ℕ) (s t : SinkState) (result : Status) : Type 0 where
  pub status : result ≡ SinkFault
  pub cause : Rose s.faults t.faults
  pub bytes : s.told ≡ true → (k : ℕ) × (t.bytes ≡ s.bytes ++ take k text)

-- what was put for a status that was due with this text
pub record Puts (due : Status) (text : List ℕ) (s t : SinkState) (result : Status) : Type 0 where
  pub put : Written due text s t result ⊎ Broken text s t result
  -- over a steady sink with room for the text no put fails
  pub quiet : s.told ≡ true → s.steady ≡ true → is_full s text ≡ false → (t.faults ≡ s.faults) × (result ≡ due)

-- the same where memory may run out before: nothing is put then
abbrev pub Reports : Status → List ℕ → SinkState → SinkState → Status → Type 0
Reports due text s t result = Puts due text s t result ⊎ ((result ≡ NoMemory) × (t ≡ s))

-- a status with a text of its own
abbrev pub IsLoud : Status → Type 0
IsLoud (PolicyRefused fault) = Unit {0}
IsLoud (AppRefused fault) = Unit {0}
IsLoud (FileFault name) = Unit {0}
IsLoud (OverLimit what value) = Unit {0}
IsLoud Usage = Unit {0}
IsLoud (PlugRefused fault) = Unit {0}
IsLoud _ = ⊥
