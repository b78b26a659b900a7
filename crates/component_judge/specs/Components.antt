-- Which components will do, and why others will not.
use Rattle.std.specs.Prelude.{ℕ, ◌≡◌, ◌≢◌, ◌≤◌, ◌<◌, ◌⊎◌, List, length, codes, Some, None, Result, Ok, Err}
use Rattle.virt_base.specs.declared.fault.AppFault.{AppFault}
use Rattle.virt_base.specs.declared.fault.AppFault.TheVariants.{Malformed, Unsupported, Invalid, Unlisted, WrongType, TwoVersions, HandleExport}
use Rattle.wasm_ast.specs.declared.component.Component.{Component}
use Rattle.comp_grammar.specs.Trees.{Tree, plain}
use Rattle.comp_read.specs.Answers.{IsTheComponent, Answers as ReadAnswers}
use Rattle.comp_read.specs.declared.reading.CompReadFault.{CompReadFault}
use Rattle.comp_read.specs.declared.reading.CompReadFault.TheVariants as read_faults
use Rattle.comp_types.specs.Items.{Signature}
use Rattle.comp_types.specs.Added.{type_of}
use Rattle.comp_types.specs.Validity.{IsValidComponent, BreaksComponent}
use Rattle.comp_signature.specs.declared.ComponentType.{ComponentType}
use Rattle.comp_signature.specs.Signatures.{component_signature}
use Rattle.component_judge.specs.Sizes.{tree_code, capped}
use Rattle.component_judge.specs.declared.refusal.Refusal.{Refusal}
use Rattle.component_judge.specs.declared.refusal.Refusal.TheVariants.{Refused, OverLimit, BadScript, NoMemory}
use Rattle.component_judge.specs.declared.component.Judged.{Judged}
use Rattle.component_judge.specs.declared.limits.Purpose.{Purpose}
use Rattle.component_judge.specs.declared.limits.Purpose.TheVariants.{Run}
use Rattle.component_judge.specs.Limits.{bytes_limit, bytes_name, code_limit, Keeps, Passes, IsWithin}
use Rattle.component_judge.specs.Types.{type_fault}

-- ---- which will do

-- The bytes are within the limits, and spell this component.
pub record IsSmall (purpose : Purpose) (bytes : List ℕ) (tree : Tree) : Type 0 where
  pub short : length bytes ≤ bytes_limit purpose
  pub spelled : IsTheComponent tree bytes
  pub code : Keeps (code_limit purpose) (tree_code bytes tree)

-- it is valid besides
pub record IsSound (purpose : Purpose) (bytes : List ℕ) (tree : Tree) : Type 0 where
  pub small : IsSmall purpose bytes tree
  pub valid : IsValidComponent tree

-- it can be run over a host that answers by a script
pub record IsRunnable (bytes : List ℕ) (tree : Tree) : Type 0 where
  pub sound : IsSound Run bytes tree
  pub fits : type_fault (type_of tree) ≡ None

-- ---- why others are not

-- reading them answers so
abbrev pub IsUnread : Purpose → List ℕ → Result Component CompReadFault → Type 0
IsUnread purpose bytes answer = (length bytes ≤ bytes_limit purpose) × ReadAnswers answer bytes

pub record HasMuchCode (purpose : Purpose) (bytes : List ℕ) (value : ℕ) : Type 0 where
  pub tree : Tree
  pub short : length bytes ≤ bytes_limit purpose
  pub spelled : IsTheComponent tree bytes
  pub much : Passes (code_limit purpose) (tree_code bytes tree)
  pub told : value ≡ capped (tree_code bytes tree)

-- a quantity is above its limit, and nothing before it is at fault
abbrev pub IsTooMuch : Purpose → List ℕ → List ℕ → ℕ → Type 0
IsTooMuch purpose bytes what value =
    ((what ≡ bytes_name purpose) × (bytes_limit purpose < length bytes) × (value ≡ length bytes))
    ⊎ (((what ≡ codes "nesting") × IsUnread purpose bytes (Err (read_faults.TooNested value)))
    ⊎ ((what ≡ codes "code-bytes") × HasMuchCode purpose bytes value))

-- which types are at fault, and how
abbrev pub Faulting : Type 1
Faulting = Signature → AppFault → Type 0

-- a component is sound whose type is at fault
abbrev pub IsMisfit : Purpose → Faulting → List ℕ → AppFault → Type 0
IsMisfit purpose AtFault bytes fault = (tree : Tree) × IsSound purpose bytes tree × AtFault (type_of tree) fault

-- why bytes are refused, where a type is refused by its imports and its exports so
abbrev pub IsRefusalBy : Purpose → Faulting → List ℕ → Refusal → Type 0
IsRefusalBy purpose AtFault bytes (Refused (Malformed at)) = IsUnread purpose bytes (Err (read_faults.Malformed at))
IsRefusalBy purpose AtFault bytes (Refused (Unsupported at byte)) = IsUnread purpose bytes (Err (read_faults.Unsupported at byte))
IsRefusalBy purpose AtFault bytes (Refused (Invalid rule section)) = (tree : Tree) × IsSmall purpose bytes tree × BreaksComponent tree rule section
IsRefusalBy purpose AtFault bytes (Refused (Unlisted name)) = IsMisfit purpose AtFault bytes (Unlisted name)
IsRefusalBy purpose AtFault bytes (Refused (WrongType name)) = IsMisfit purpose AtFault bytes (WrongType name)
IsRefusalBy purpose AtFault bytes (Refused (TwoVersions name)) = IsMisfit purpose AtFault bytes (TwoVersions name)
IsRefusalBy purpose AtFault bytes (Refused (HandleExport name)) = IsMisfit purpose AtFault bytes (HandleExport name)
IsRefusalBy purpose AtFault bytes (OverLimit what value) = IsTooMuch purpose bytes what value
IsRefusalBy purpose AtFault bytes (BadScript path) = ⊥
IsRefusalBy purpose AtFault bytes NoMemory = Unit {0}

-- a host that answers by a script cannot run it
abbrev pub IsUnfit : Signature → AppFault → Type 0
IsUnfit ty fault = type_fault ty ≡ Some fault

abbrev pub IsRefusal : List ℕ → Refusal → Type 0
IsRefusal bytes refusal = IsRefusalBy Run IsUnfit bytes refusal

-- ---- what is answered

-- of bytes: a component that can be run with its type, or why none is
abbrev pub Judges : List ℕ → Result Judged Refusal → Type 0
Judges bytes (Ok j) = IsRunnable bytes (plain j.component) × (component_signature j.ty ≡ type_of (plain j.component))
Judges bytes (Err refusal) = IsRefusal bytes refusal

-- a component that can be run is not refused
abbrev pub HasOneVerdict : Type 0
HasOneVerdict = (bytes : List ℕ) (tree : Tree) (refusal : Refusal) → IsRunnable bytes tree → refusal ≢ NoMemory → IsRefusal bytes refusal → ⊥

-- of two refusals beside that memory ran out both are the same
abbrev pub HasOneRefusal : (List ℕ → Refusal → Type 0) → Type 0
HasOneRefusal Refuses = (bytes : List ℕ) (a b : Refusal) → a ≢ NoMemory → b ≢ NoMemory → Refuses bytes a → Refuses bytes b → a ≡ b

-- ---- for private clauses

-- no type is at fault
abbrev pub IsNeverAtFault : Signature → AppFault → Type 0
IsNeverAtFault ty fault = ⊥

-- of bytes: a sound component with its type, or why there is none
abbrev pub JudgesSound : Purpose → List ℕ → Result Judged Refusal → Type 0
JudgesSound purpose bytes (Ok j) = IsSound purpose bytes (plain j.component) × (component_signature j.ty ≡ type_of (plain j.component))
JudgesSound purpose bytes (Err refusal) = IsRefusalBy purpose IsNeverAtFault bytes refusal

-- of that many bytes
abbrev pub HasFewBytes : Purpose → ℕ → Result (Unit {0}) Refusal → Type 0
HasFewBytes purpose len r = IsWithin (bytes_name purpose) (bytes_limit purpose) len r

-- of bytes, whatever their length
abbrev pub Reads : List ℕ → Result Component Refusal → Type 0
Reads bytes (Ok c) = IsTheComponent (plain c) bytes
Reads bytes (Err (Refused (Malformed at))) = ReadAnswers (Err (read_faults.Malformed at)) bytes
Reads bytes (Err (Refused (Unsupported at byte))) = ReadAnswers (Err (read_faults.Unsupported at byte)) bytes
Reads bytes (Err (Refused _)) = ⊥
Reads bytes (Err (OverLimit what value)) = (what ≡ codes "nesting") × ReadAnswers (Err (read_faults.TooNested value)) bytes
Reads bytes (Err (BadScript path)) = ⊥
Reads bytes (Err NoMemory) = Unit {0}

-- of bytes and the component that they spell
abbrev pub HasFewCode : Purpose → List ℕ → Tree → Result (Unit {0}) Refusal → Type 0
HasFewCode purpose bytes tree (Ok u) = Keeps (code_limit purpose) (tree_code bytes tree)
HasFewCode purpose bytes tree (Err (OverLimit what value)) = (what ≡ codes "code-bytes") × Passes (code_limit purpose) (tree_code bytes tree) × (value ≡ capped (tree_code bytes tree))
HasFewCode purpose bytes tree (Err NoMemory) = Unit {0}
HasFewCode purpose bytes tree (Err _) = ⊥

abbrev pub HasLittleCode : List ℕ → Tree → Result (Unit {0}) Refusal → Type 0
HasLittleCode bytes tree r = HasFewCode Run bytes tree r

-- of a component
abbrev pub Validates : Tree → Result ComponentType Refusal → Type 0
Validates tree (Ok ty) = IsValidComponent tree × (component_signature ty ≡ type_of tree)
Validates tree (Err (Refused (Invalid rule section))) = BreaksComponent tree rule section
Validates tree (Err NoMemory) = Unit {0}
Validates tree (Err _) = ⊥
