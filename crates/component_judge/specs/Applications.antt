-- Which components are listed, and why others are not.
use Rattle.std.specs.Prelude.{ℕ, ◌≡◌, ◌≢◌, List, Result, Ok, Err}
use Rattle.virt_base.specs.declared.fault.AppFault.{AppFault}
use Rattle.virt_base.specs.declared.fault.AppFault.TheVariants.{Malformed, Unsupported, Invalid, Unlisted, WrongType, TwoVersions, HandleExport}
use Rattle.comp_grammar.specs.Trees.{Tree, plain}
use Rattle.comp_types.specs.Items.{Signature}
use Rattle.comp_types.specs.Added.{type_of}
use Rattle.comp_signature.specs.Signatures.{component_signature}
use Rattle.wasi_match.specs.declared.listed.ListedUse.{ListedUse}
use Rattle.wasi_match.specs.declared.fault.Cause.TheVariants as causes
use Rattle.wasi_match.specs.declared.fault.MatchFault.{MatchFault}
use Rattle.wasi_match.specs.declared.fault.MatchFault.TheVariants as match_faults
use Rattle.wasi_match.specs.Listed.{IsListed}
use Rattle.wasi_match.specs.Verdicts.{IsRefused}
use Rattle.component_judge.specs.declared.application.Application.{Application}
use Rattle.component_judge.specs.declared.refusal.Refusal.{Refusal}
use Rattle.component_judge.specs.declared.refusal.Refusal.TheVariants.{Refused, NoMemory}
use Rattle.component_judge.specs.declared.limits.Purpose.{Purpose}
use Rattle.component_judge.specs.Components.{IsRefusalBy, IsSound, HasOneRefusal}

-- The bytes are within the limits, and spell this component, which is valid, and listed with these imports.
pub record IsApplication (purpose : Purpose) (bytes : List ℕ) (tree : Tree) (uses : List ListedUse) : Type 0 where
  pub sound : IsSound purpose bytes tree
  pub listed : IsListed (type_of tree) uses

-- the type is not that of a listed component
abbrev pub IsUnlisted : Signature → AppFault → Type 0
IsUnlisted ty (Unlisted name) = IsRefused causes.Unlisted ty name
IsUnlisted ty (WrongType name) = IsRefused causes.WrongType ty name
IsUnlisted ty (TwoVersions name) = IsRefused causes.TwoVersions ty name
IsUnlisted ty (HandleExport name) = IsRefused causes.HandleExport ty name
IsUnlisted ty (Malformed at) = ⊥
IsUnlisted ty (Unsupported at byte) = ⊥
IsUnlisted ty (Invalid rule section) = ⊥

abbrev pub IsApplicationRefusal : Purpose → List ℕ → Refusal → Type 0
IsApplicationRefusal purpose bytes refusal = IsRefusalBy purpose IsUnlisted bytes refusal

-- of bytes: a listed component with its type and its imports, or why there is none
abbrev pub JudgesApplication : Purpose → List ℕ → Result Application Refusal → Type 0
JudgesApplication purpose bytes (Ok a) = IsApplication purpose bytes (plain a.judged.component) a.listed.uses × (component_signature a.judged.ty ≡ type_of (plain a.judged.component))
JudgesApplication purpose bytes (Err refusal) = IsApplicationRefusal purpose bytes refusal

-- a listed component is not refused
abbrev pub HasOneListing : Type 0
HasOneListing = (purpose : Purpose) (bytes : List ℕ) (tree : Tree) (uses : List ListedUse) (refusal : Refusal) → IsApplication purpose bytes tree uses → refusal ≢ NoMemory → IsApplicationRefusal purpose bytes refusal → ⊥

-- no other is refused for two causes
abbrev pub ListingIsOne : Type 0
ListingIsOne = (purpose : Purpose) → HasOneRefusal (IsApplicationRefusal purpose)

-- ---- for private clauses

abbrev pub refusal_of : MatchFault → Refusal
refusal_of (match_faults.Unlisted name) = Refused (Unlisted name)
refusal_of (match_faults.TwoVersions name) = Refused (TwoVersions name)
refusal_of (match_faults.WrongType name) = Refused (WrongType name)
refusal_of (match_faults.HandleExport name) = Refused (HandleExport name)
refusal_of match_faults.NoMemory = NoMemory
