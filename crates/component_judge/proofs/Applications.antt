-- What judging a listed component answers, one step after another.
use Rattle.std.proofs.Common.{◌≡◌, ℕ, List, sym, subst, Ok, Err}
use Rattle.std.specs.Prelude.{Result}
use Rattle.std.specs.Option.{IfSome}
use Rattle.virt_base.specs.declared.fault.AppFault.TheVariants.{Unlisted, WrongType, TwoVersions, HandleExport}
use Rattle.comp_grammar.specs.Trees.{Tree, plain}
use Rattle.comp_types.specs.Items.{Signature}
use Rattle.comp_types.specs.Added.{type_of}
use Rattle.comp_signature.specs.Signatures.{component_signature}
use Rattle.wasi_match.specs.declared.listed.Listed.{Listed}
use Rattle.wasi_match.specs.declared.fault.MatchFault.{MatchFault}
use Rattle.wasi_match.specs.declared.fault.MatchFault.TheVariants as match_faults
use Rattle.wasi_match.specs.Listed.{IsListed}
use Rattle.wasi_match.specs.Verdicts.{IsVerdict, fault_verdict}
use Rattle.component_judge.specs.declared.application.Application.{Application}
use Rattle.component_judge.specs.declared.component.Judged.{Judged}
use Rattle.component_judge.specs.declared.refusal.Refusal.{Refusal}
use Rattle.component_judge.specs.declared.limits.Purpose.{Purpose}
use Rattle.component_judge.specs.declared.limits.Purpose.TheVariants.{Run}
use Rattle.component_judge.specs.Components.{IsRefusalBy, IsNeverAtFault, Judges, JudgesSound}
use Rattle.component_judge.specs.Applications.{IsUnlisted, JudgesApplication, refusal_of}
use Rattle.component_judge.proofs.Judging.{before_type}
use Rattle.component_judge.proofs.Listing.{listed_fits}

pub not_sound : (p : Purpose) (bytes : List ℕ) (r : Result Application Refusal) (e : Refusal) → r ≡ Err e → IsRefusalBy p IsNeverAtFault bytes e → JudgesApplication p bytes r
not_sound p bytes r e same h = subst (λ (x : Result Application Refusal). JudgesApplication p bytes x) (sym same) (before_type p IsUnlisted bytes e h)

-- a sound component with this type
module _ (p : Purpose) (bytes : List ℕ) (judged : Judged) (s : JudgesSound p bytes (Ok judged)) where
  abbrev ty : Signature
  ty = component_signature judged.ty

  abbrev tree : Tree
  tree = plain judged.component

  refused : (fault : MatchFault) → IfSome (fault_verdict fault) (IsVerdict ty) → JudgesApplication p bytes (Err (refusal_of fault))
  refused (match_faults.Unlisted name) h = (tree, s.0, subst (λ (t : Signature). IsUnlisted t (Unlisted name)) s.1 h)
  refused (match_faults.TwoVersions name) h = (tree, s.0, subst (λ (t : Signature). IsUnlisted t (TwoVersions name)) s.1 h)
  refused (match_faults.WrongType name) h = (tree, s.0, subst (λ (t : Signature). IsUnlisted t (WrongType name)) s.1 h)
  refused (match_faults.HandleExport name) h = (tree, s.0, subst (λ (t : Signature). IsUnlisted t (HandleExport name)) s.1 h)
  refused match_faults.NoMemory h = tt

  pub not_listed : (fault : MatchFault) (r : Result Application Refusal) → r ≡ Err (refusal_of fault) → IfSome (fault_verdict fault) (IsVerdict ty) → JudgesApplication p bytes r
  not_listed fault r same h = subst (λ (x : Result Application Refusal). JudgesApplication p bytes x) (sym same) (refused fault h)

  listed_tree : (listed : Listed) → IsListed ty listed.uses → IsListed (type_of tree) listed.uses
  listed_tree listed h = subst (λ (t : Signature). IsListed t listed.uses) s.1 h

  pub is_listed : (listed : Listed) → IsListed ty listed.uses → JudgesApplication p bytes (Ok (record { judged = judged; listed = listed }))
  is_listed listed h = (record { sound = s.0; listed = listed_tree listed h }, s.1)

-- a listed component that keeps the limits of a run can be run
runs_so : (bytes : List ℕ) (judged : Judged) (s : JudgesSound Run bytes (Ok judged)) (listed : Listed) → IsListed (component_signature judged.ty) listed.uses → Judges bytes (Ok judged)
runs_so bytes judged s listed h = (record { sound = s.0; fits = listed_fits (type_of (plain judged.component)) listed.uses (listed_tree Run bytes judged s listed h) }, s.1)

pub runs : (p : Purpose) (bytes : List ℕ) (judged : Judged) (s : JudgesSound p bytes (Ok judged)) (listed : Listed) → IsListed (component_signature judged.ty) listed.uses → p ≡ Run → Judges bytes (Ok judged)
runs p bytes judged s listed h is = runs_so bytes judged (subst (λ (q : Purpose). JudgesSound q bytes (Ok judged)) is s) listed h
