-- A component that can be run is not refused.
use Rattle.std.proofs.Common.{◌≡◌, ◌≢◌, ◌∙◌, ℕ, ◌≤◌, List, refl, sym, subst, length, inl, inr, arith}
use Rattle.std.specs.Prelude.{Some, None}
use Rattle.virt_base.specs.declared.fault.AppFault.{AppFault}
use Rattle.virt_base.specs.declared.fault.AppFault.TheVariants.{Malformed, Unsupported, Invalid, Unlisted, WrongType, TwoVersions, HandleExport}
use Rattle.comp_grammar.specs.Trees.{Tree}
use Rattle.comp_read.specs.Answers.{IsTheComponent}
use Rattle.comp_types.specs.Added.{type_of}
use Rattle.comp_types.specs.Items.{Signature}
use Rattle.comp_types.specs.Validity.{BreaksComponent}
use Rattle.comp_types.proofs.VerdictLaws.{valid_breaks_nothing}
use Rattle.component_judge.specs.Sizes.{tree_code}
use Rattle.component_judge.specs.declared.limits.Purpose.{Purpose}
use Rattle.component_judge.specs.declared.limits.Purpose.TheVariants.{Run}
use Rattle.component_judge.specs.Limits.{bytes_limit, code_limit, Passes}
use Rattle.component_judge.proofs.Keeping.{keeps_or_passes}
use Rattle.wasi_match.specs.declared.listed.ListedUse.{ListedUse}
use Rattle.wasi_match.specs.declared.fault.Cause.{Cause}
use Rattle.wasi_match.specs.declared.fault.Cause.TheVariants as causes
use Rattle.wasi_match.specs.Listed.{IsListed}
use Rattle.wasi_match.specs.Verdicts.{Accepted, Refused as RefusedFor, IsRefused}
use Rattle.wasi_match.proofs.VerdictLaws.{one_verdict as one_listing}
use Rattle.component_judge.specs.declared.refusal.Refusal.{Refusal}
use Rattle.component_judge.specs.declared.refusal.Refusal.TheVariants.{Refused, OverLimit, BadScript, NoMemory}
use Rattle.component_judge.specs.Types.{type_fault}
use Rattle.component_judge.specs.Components.{Faulting, IsSound, IsUnfit, HasMuchCode, IsTooMuch, IsMisfit, IsRefusalBy, HasOneVerdict}
use Rattle.component_judge.specs.Applications.{IsUnlisted, HasOneListing}

module _ (p : Purpose) (AtFault : Faulting) (bytes : List ℕ) (tree : Tree) (a : IsSound p bytes tree) (fits : (fault : AppFault) → AtFault (type_of tree) fault → ⊥) where
  same_tree : (u : Tree) → IsTheComponent u bytes → u ≡ tree
  same_tree u h = a.small.spelled.1 u h.0.0

  fitting : (fault : AppFault) → IsMisfit p AtFault bytes fault → ⊥
  fitting fault h = fits fault (subst (λ (t : Tree). AtFault (type_of t) fault) (same_tree h.0 h.1.small.spelled) h.2)

  little_code : (value : ℕ) → HasMuchCode p bytes value → ⊥
  little_code value h =
      let same : h.tree ≡ tree = same_tree h.tree h.spelled in
      keeps_or_passes (code_limit p) (tree_code bytes tree) a.small.code (subst (λ (t : Tree). Passes (code_limit p) (tree_code bytes t)) same h.much)

  within : (what : List ℕ) (value : ℕ) → IsTooMuch p bytes what value → ⊥
  within what value h = elim h [
    | inl long ↦ (let short : length bytes ≤ bytes_limit p = a.small.short in omega (arith, short, long.1))
    | inr later ↦ (elim later [
      | inl deep ↦ deep.1.1.2 tree a.small.spelled.0
      | inr much ↦ little_code value much.1
    ])
  ]

  pub stands : (e : Refusal) → e ≢ NoMemory → IsRefusalBy p AtFault bytes e → ⊥
  stands (Refused (Malformed at)) some h = h.1.1 tree a.small.spelled.0
  stands (Refused (Unsupported at byte)) some h = h.1.1 tree a.small.spelled.0
  stands (Refused (Invalid rule section)) some h =
      valid_breaks_nothing tree rule section a.valid (subst (λ (t : Tree). BreaksComponent t rule section) (same_tree h.0 h.1.spelled) h.2)
  stands (Refused (Unlisted name)) some h = fitting (Unlisted name) h
  stands (Refused (HandleExport name)) some h = fitting (HandleExport name) h
  stands (Refused (WrongType name)) some h = fitting (WrongType name) h
  stands (Refused (TwoVersions name)) some h = fitting (TwoVersions name) h
  stands (OverLimit what value) some h = within what value h
  stands (BadScript path) some h = h
  stands NoMemory some h = some refl

-- ---- over a script alone

no_fault : (ty : Signature) (fault : AppFault) → type_fault ty ≡ None → IsUnfit ty fault → ⊥
no_fault ty fault fits at = let never : None ≡ Some fault = sym fits ∙ at in cc

pub one_verdict : HasOneVerdict
one_verdict = λ bytes tree e a some h. stands Run IsUnfit bytes tree a.sound (λ fault at. no_fault (type_of tree) fault a.fits at) e some h

-- ---- under a policy

accepted_or_refused : (uses : List ListedUse) (cause : Cause) (name : List ℕ) → Accepted uses ≡ RefusedFor cause name → ⊥
accepted_or_refused uses cause name e = cc

not_listed : (ty : Signature) (uses : List ListedUse) (cause : Cause) (name : List ℕ) → IsListed ty uses → IsRefused cause ty name → ⊥
not_listed ty uses cause name l h = accepted_or_refused uses cause name (one_listing ty (Accepted uses) (RefusedFor cause name) l h)

pub listed_stands : (ty : Signature) (uses : List ListedUse) (fault : AppFault) → IsListed ty uses → IsUnlisted ty fault → ⊥
listed_stands ty uses (Unlisted name) l h = not_listed ty uses causes.Unlisted name l h
listed_stands ty uses (WrongType name) l h = not_listed ty uses causes.WrongType name l h
listed_stands ty uses (TwoVersions name) l h = not_listed ty uses causes.TwoVersions name l h
listed_stands ty uses (HandleExport name) l h = not_listed ty uses causes.HandleExport name l h
listed_stands ty uses (Malformed at) l h = h
listed_stands ty uses (Unsupported at byte) l h = h
listed_stands ty uses (Invalid rule section) l h = h

pub one_application : HasOneListing
one_application = λ p bytes tree uses e a some h. stands p IsUnlisted bytes tree a.sound (λ fault at. listed_stands (type_of tree) uses fault a.listed at) e some h
