-- What reading a file of a run comes to.
use Rattle.std.specs.Prelude.{ℕ, ◌≡◌, ◌≤◌, ◌<◌, ◌⊎◌, List, true, Some, None, IsSome, Result, IfErr, IfOk, length, Vec}
use Rattle.std.specs.declared.alloc.Global.{Global}
use Rattle.outside.specs.Fault.{Rose}
use Rattle.outside.specs.Files.{FilesState, Goes}
use Rattle.component_judge.specs.declared.refusal.Refusal.{Refusal}
use Rattle.component_judge.specs.declared.refusal.Refusal.TheVariants.{OverLimit, NoMemory}
use Rattle.component_judge.specs.declared.unready.Unready.{Unready}
use Rattle.component_judge.specs.declared.unready.Unready.TheVariants.{FileFault, Refused}

abbrev pub IsFileFault : Unready → Type 0
IsFileFault (FileFault name) = Unit {0}
IsFileFault (Refused refusal) = ⊥

-- The file could not be read: the count rose, and over steady files it is absent.
pub record CouldNotRead (name kept : List ℕ) (s t : FilesState) : Type 0 where
  pub asked : kept ≡ name
  pub counted : Rose s.faults t.faults
  pub absent : s.told ≡ true → s.steady ≡ true → s.held.file name ≡ None

-- The file is longer than the limit.
pub record IsTooLong (name what : List ℕ) (limit : ℕ) (s : FilesState) (refusal : Refusal) : Type 0 where
  pub value : ℕ
  pub named : refusal ≡ OverLimit what value
  pub over : limit < value
  pub there : s.told ≡ true → (bytes : List ℕ) × (s.held.file name ≡ Some bytes) × (length bytes ≡ value)

-- The file's bytes are refused.
pub record IsRefusedFile (name : List ℕ) (Refuses : List ℕ → Refusal → Type 0) (s : FilesState) (refusal : Refusal) : Type 0 where
  pub bytes : List ℕ
  pub refused : Refuses bytes refusal
  pub there : s.told ≡ true → s.held.file name ≡ Some bytes

-- why a file of a limited length did not do, where its bytes are refused so
abbrev pub Cause : List ℕ → List ℕ → ℕ → (List ℕ → Refusal → Type 0) → FilesState → FilesState → Unready → Type 0
Cause name what limit Refuses s t (FileFault kept) = CouldNotRead name kept s t
Cause name what limit Refuses s t (Refused refusal) = (refusal ≡ NoMemory) ⊎ (IsTooLong name what limit s refusal ⊎ IsRefusedFile name Refuses s refusal)

-- ---- for private clauses

abbrev pub IsFaultOf : List ℕ → Unready → Type 0
IsFaultOf name (FileFault kept) = kept ≡ name
IsFaultOf name (Refused refusal) = refusal ≡ NoMemory

abbrev pub IsOverOf : List ℕ → ℕ → Unready → Type 0
IsOverOf what value (FileFault kept) = ⊥
IsOverOf what value (Refused refusal) = (refusal ≡ OverLimit what value) ⊎ (refusal ≡ NoMemory)

-- no bytes are refused when they are only read
abbrev pub RefusesNone : List ℕ → Refusal → Type 0
RefusesNone bytes refusal = ⊥

-- What reading a file does: its bytes within the limit, or why not.
pub record Fetches (name what : List ℕ) (limit : ℕ) (s t : FilesState) (r : Result (Vec ℕ Global) Unready) : Type 0 where
  pub goes : Goes s t
  pub stays : t.held ≡ s.held
  pub short : IfOk r (λ v. length v.items ≤ limit)
  pub bytes : IfOk r (λ v. s.told ≡ true → s.held.file name ≡ Some v.items)
  pub cause : IfErr r (Cause name what limit RefusesNone s t)
  pub quiet : s.told ≡ true → s.steady ≡ true → IsSome (s.held.file name) → (t.faults ≡ s.faults) × IfErr r (λ e. ¬ (IsFileFault e))

-- What reading and judging a file does: what it holds, or why it does not do.
pub record FetchesAs {A : Type 0} (name what : List ℕ) (limit : ℕ) (Refuses : List ℕ → Refusal → Type 0) (Has : A → Type 0) (s t : FilesState) (r : Result A Unready) : Type 0 where
  pub goes : Goes s t
  pub stays : t.held ≡ s.held
  pub ready : IfOk r Has
  pub cause : IfErr r (Cause name what limit Refuses s t)
  pub quiet : s.told ≡ true → s.steady ≡ true → IsSome (s.held.file name) → (t.faults ≡ s.faults) × IfErr r (λ e. ¬ (IsFileFault e))
