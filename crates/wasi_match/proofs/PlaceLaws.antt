-- Entries up to a place, the one there, and those after it.
use Rattle.std.proofs.Common.{◌≡◌, ◌∙◌, ap, sym, subst, ℕ, ◌+◌, ◌<◌, List, [], ◌∷◌, ◌++◌, ◌≤◌, true, false, Some, length, take, drop, get_or, arith}
use Rattle.std.specs.Prelude.{IfSome, ◌||◌}
use Rattle.std.proofs.lemmas.Grind.{common_steps}
use Rattle.std.proofs.lemmas.List.{take_more, drop_more, take-append-drop}
use Rattle.wit_types.specs.Plain.{Name}
use Rattle.comp_types.specs.Items.{Entries, Signature, More, and_entry}
use Rattle.comp_types.specs.Resources.{item_has_resource, entries_have_resource}
use Rattle.comp_types.specs.Views.{item_of, entries_of}
use Rattle.comp_types.specs.Matching.{Pairs}
use Rattle.comp_types.specs.declared.types.InstanceEntry.{InstanceEntry}
use Rattle.comp_types.proofs.EntryLemmas.{entries_of-push, resource-and}
use Rattle.wasi_match.specs.declared.listed.ListedUse.{ListedUse}
use Rattle.wasi_match.specs.declared.fault.Cause.{Cause}
use Rattle.wasi_match.specs.declared.fault.Cause.TheVariants.{Unlisted, TwoVersions, WrongType, HandleExport}
use Rattle.wasi_match.specs.declared.fault.MatchFault.{MatchFault}
use Rattle.wasi_match.specs.Begun.{IsBegun}
use Rattle.wasi_match.specs.Verdicts.{Refused, joined, IsAtFault, HasImportAtFault, HasHandle, IsRefused, IsVerdict, fault_verdict}
use Rattle.wasi_match.proofs.BegunLaws.{begun_listed}
use Rattle.wasi_match.proofs.SplitLaws.{joined-of}

module _ (xs : List InstanceEntry) (i : ℕ) (x : InstanceEntry) (less : i < length xs) (is : x ≡ get_or xs i x) where
  abbrev before : Entries
  before = entries_of (take i xs)

  abbrev behind : Entries
  behind = entries_of (drop (i + 1) xs)

  pub one_further : entries_of (take (i + 1) xs) ≡ and_entry before x.name (item_of x.ty)
  one_further = ap entries_of (take_more xs i x less ∙ ap (λ y. take i xs ++ y ∷ []) (sym is)) ∙ entries_of-push (take i xs) x

  pub in_parts : entries_of xs ≡ joined before (More x.name (item_of x.ty) behind)
  in_parts =
      ap entries_of (sym (take-append-drop i xs)) ∙ joined-of (take i xs) (drop i xs)
      ∙ ap (λ ys. joined before (entries_of ys)) (drop_more xs i x less ∙ ap (λ y. y ∷ drop (i + 1) xs) (sym is))

  -- ---- exports

  pub still_none : entries_have_resource before ≡ false → item_has_resource (item_of x.ty) ≡ false → entries_have_resource (entries_of (take (i + 1) xs)) ≡ false
  still_none h g = ap entries_have_resource one_further ∙ resource-and before x.name (item_of x.ty) ∙ ap (λ b. b || item_has_resource (item_of x.ty)) h ∙ g

  pub handle_here : (exports : Entries) → entries_of xs ≡ exports → entries_have_resource before ≡ false → item_has_resource (item_of x.ty) ≡ true → HasHandle exports x.name
  handle_here exports e h g = record { before = before; item = item_of x.ty; behind = behind; there = sym e ∙ in_parts; none = h; some = g }

  -- ---- imports

  pub fault_here : (cause : Cause) (imports : Entries) (uses : List ListedUse) (by : Pairs) → entries_of xs ≡ imports → IsBegun before uses by → IsAtFault cause before x.name (item_of x.ty) uses
      → HasImportAtFault cause imports x.name
  fault_here cause imports uses by e b h = record {
    before = before;
    item = item_of x.ty;
    behind = behind;
    there = sym e ∙ in_parts;
    uses = uses;
    listed = begun_listed before uses by b;
    fault = h;
  }

pub is_refused : (cause : Cause) (ty : Signature) (name : Name) → HasImportAtFault cause ty.imports name → IsRefused cause ty name
is_refused Unlisted ty name h = h
is_refused TwoVersions ty name h = h
is_refused WrongType ty name h = h
is_refused HandleExport ty name h = absurd h.fault

pub answers : (ty : Signature) (fault : MatchFault) (cause : Cause) (name at : Name) → fault_verdict fault ≡ Some (Refused cause name) → name ≡ at → IsRefused cause ty at → IfSome (fault_verdict fault) (IsVerdict ty)
answers ty fault cause name at e same h = subst (λ o. IfSome o (IsVerdict ty)) (sym e) (subst (IsRefused cause ty) (sym same) h)

pub all_taken : (xs : List InstanceEntry) (i : ℕ) → length xs ≤ i → entries_of (take i xs) ≡ entries_of xs
all_taken xs i past =
    let all : take i xs ≡ xs = grind (arith, common_steps) in
    ap entries_of all
