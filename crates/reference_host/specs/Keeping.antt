-- What a row keeps of the scratch folder.
use Rattle.std.specs.Prelude.{◌≡◌, ℕ, Bool, true, List, [], ◌∷◌, length, Option, Some, None, IfSome, IsSome, unwrap_or}
use Rattle.wit_types.specs.Plain.{Name}
use Rattle.wit_types.specs.PlainValue.{PlainValues}
use Rattle.tree_table.specs.Scratches.{ScratchMap, file_at}
use Rattle.tree_table.specs.Tables.{Forest}
use Rattle.reference_step.specs.Handles.{Content, ScratchFile, ScratchIn, ScratchOut}
use Rattle.reference_step.specs.State.{View, Effect, Row, Traps, Does}
use Rattle.reference_step.specs.Rows.{row_of}
use Rattle.ref_rules.specs.declared.content.Content.{Content as CodeContent}
use Rattle.ref_rules.specs.Contents.{open_file}
use Rattle.ref_answers.specs.declared.row.Effect.{Effect as CodeEffect}
use Rattle.ref_answers.specs.declared.row.Row.TheVariants.{Does as Does'}
use Rattle.ref_scratch.specs.Told.{told, settled}

-- as many files as there were, and each that is held
pub record KeepsFiles (held : ℕ → Bool) (old new : ScratchMap) : Type 0 where
  pub count : length new.files ≡ length old.files
  pub kept : (n : ℕ) → held n ≡ true → IsSome (file_at old n) → IsSome (file_at new n)

-- a file that a content holds open is there
abbrev pub IsThere : ScratchMap → Content → Type 0
IsThere m (ScratchFile n may_write) = IsSome (file_at m n)
IsThere m (ScratchIn n place) = IsSome (file_at m n)
IsThere m (ScratchOut n place) = IsSome (file_at m n)
IsThere m _ = Unit {0}

abbrev pub AreThere : ScratchMap → List Content → Type 0
AreThere m [] = Unit {0}
AreThere m (c ∷ cs) = IsThere m c × AreThere m cs

abbrev pub IsThereIfAny : ScratchMap → Option Content → Type 0
IsThereIfAny m None = Unit {0}
IsThereIfAny m (Some c) = IsThere m c

pub record KeepsBy (held : ℕ → Bool) (old new : ScratchMap) (e : Effect) : Type 0 where
  pub files : KeepsFiles held old new
  pub makes : AreThere new e.makes
  pub becomes : IsThereIfAny new e.becomes

abbrev pub Keeps : (ℕ → Bool) → ScratchMap → Row → Type 0
Keeps held m Traps = Unit {0}
Keeps held m (Does e) = KeepsBy held m (unwrap_or e.scratch m) e

-- where each file that a live handle holds open is there
abbrev pub RowsKeep : Type 0
RowsKeep = (v : View) → ((id : ℕ) → IsThere v.scratch (v.content id)) → (interface : ℕ) (function : Name) (args : PlainValues) → Keeps v.held v.scratch (row_of interface function v args)

-- ---- the same of a row of the code, which tells no folder

abbrev pub OpensThere : ScratchMap → Option CodeContent → Type 0
OpensThere m None = Unit {0}
OpensThere m (Some c) = IfSome (open_file c) (λ n. IsSome (file_at m n))

pub record KeptBy (held : ℕ → Bool) (old new : ScratchMap) (e : CodeEffect) : Type 0 where
  pub files : KeepsFiles held old new
  pub makes : OpensThere new e.makes
  pub becomes : OpensThere new e.becomes

-- where it is told as one of the definition that keeps files
abbrev pub ToldKeeps : Type 0
ToldKeeps = (f : Forest) (e : CodeEffect) (held : ℕ → Bool) (old new : ScratchMap) (row : Row) → told f (Does' e) new ≡ settled old row → Keeps held old row → KeptBy held old new e
