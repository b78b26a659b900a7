-- The walk through the imports of the first component.
use Rattle.std.proofs.Common.{◌≡◌, ◌∙◌, ap, refl, sym, subst, ℕ, ◌+◌, ◌<◌, ◌≤◌, List, [], ◌∷◌, ◌++◌, Bool, true, false, Option, Some, None, length, drop, get_or, nat_eq}
use Rattle.std.specs.Prelude.{IfSome}
use Rattle.std.specs.List.{list_any}
use Rattle.std.proofs.lemmas.List.{drop_more, drop_all}
use Rattle.wit_types.specs.Plain.{Name}
use Rattle.comp_types.specs.Items.{Item, Entries, End, More}
use Rattle.comp_types.specs.Views.{item_of, entries_of}
use Rattle.comp_types.specs.Matching.{Pairs}
use Rattle.comp_types.specs.declared.types.InstanceEntry.{InstanceEntry}
use Rattle.wasi_match.specs.Names.{Versioned, listed_as}
use Rattle.wasi_match.specs.declared.fault.Cause.{Cause}
use Rattle.wasi_match.specs.declared.fault.MatchFault.{MatchFault}
use Rattle.wasi_match.specs.Listed.{interfaces}
use Rattle.wasi_match.specs.Verdicts.{IsVerdict}
use Rattle.wasi_match.specs.Walk.{instance_in, fitted, on_named, on_new, on_fit, use_of, verdict_from, verdict}
use Rattle.wasi_match.proofs.WalkLaws.{verdict_holds}
use Rattle.plug_match.specs.declared.first.First.{First}
use Rattle.plug_match.specs.Steps.{Step, Came, Goes, Stops}
use Rattle.plug_match.specs.FirstWalk.{FirstVerdict, Asks, FirstAtFault, first_fitted, first_new, first_named, first_step, on_first, first_from, first_of, alone, verdict_alone}
use Rattle.plug_match.specs.Answers.{first_fault}

-- ---- one import after another

module _ (xs : List InstanceEntry) (i : ℕ) (first : First) (v : FirstVerdict) (so_far : first_from first (entries_of (drop i xs)) ≡ v) where
  pub first_ends : length xs ≤ i → Asks first ≡ v
  first_ends past = ap (λ ys. first_from first (entries_of ys)) (sym (drop_all i xs past)) ∙ so_far

  module _ (x : InstanceEntry) (less : i < length xs) (is : x ≡ get_or xs i x) (cause : Option Cause) (new : First) (came : Came cause new (first_step first x.name (item_of x.ty))) where
    abbrev rest : Entries
    rest = entries_of (drop (i + 1) xs)

    there : on_first x.name (first_step first x.name (item_of x.ty)) (λ more. first_from more rest) ≡ v
    there = ap (λ ys. first_from first (entries_of ys)) (sym (drop_more xs i x less ∙ ap (λ y. y ∷ drop (i + 1) xs) (sym is))) ∙ so_far

    pub first_goes : cause ≡ None → first_from new rest ≡ v
    first_goes e =
        let goes = subst (λ o. Came o new (first_step first x.name (item_of x.ty))) e came in
        ap (λ s. on_first x.name s (λ more. first_from more rest)) (sym goes) ∙ there

    pub first_stops : (why : Cause) → cause ≡ Some why → FirstAtFault why x.name ≡ v
    first_stops why e =
        let stops = subst (λ o. Came o new (first_step first x.name (item_of x.ty))) e came in
        ap (λ s. on_first x.name s (λ more. first_from more rest)) (sym stops) ∙ there

pub first_refused : (fault : MatchFault) (cause : Cause) (name at : Name) (v : FirstVerdict) → first_fault fault ≡ Some (FirstAtFault cause name) → name ≡ at → FirstAtFault cause at ≡ v
    → IfSome (first_fault fault) (λ w. w ≡ v)
first_refused fault cause name at v e same h = subst (λ o. IfSome o (λ w. w ≡ v)) (sym e) (ap (FirstAtFault cause) same ∙ h)

-- ---- the verdict of a component with these imports that exports nothing

module _ (name : Name) (rest : Entries) (first : First) (onwards : (more : First) → verdict_alone (first_from more rest) ≡ verdict_from more.uses more.kinds rest End) where
  abbrev go : Versioned → Entries → Pairs → First
  go listed entries more = record { uses = first.uses ++ use_of listed entries ∷ []; kinds = more }

  fit : (listed : Versioned) (entries : Entries) (o : Option Pairs)
      → verdict_alone (on_first name (first_fitted first listed entries o) (λ more. first_from more rest)) ≡ on_fit name o (λ more. verdict_from (first.uses ++ use_of listed entries ∷ []) more rest End)
  fit listed entries None = refl
  fit listed entries (Some more) = onwards (go listed entries more)

  new : (listed : Versioned) (entries : Entries) (o : Option Pairs) (b : Bool)
      → verdict_alone (on_first name (first_new b (first_fitted first listed entries o)) (λ more. first_from more rest))
      ≡ on_new name b (on_fit name o (λ more. verdict_from (first.uses ++ use_of listed entries ∷ []) more rest End))
  new listed entries o true = refl
  new listed entries o false = fit listed entries o

  one : (n : Option Versioned) (instance : Option Entries)
      → verdict_alone (on_first name (first_named first n instance) (λ more. first_from more rest))
      ≡ on_named name n instance (λ listed entries.
      on_new name (list_any (nat_eq listed.interface) (interfaces first.uses)) (
      on_fit name (fitted first.kinds listed.interface entries) (λ more.
      verdict_from (first.uses ++ use_of listed entries ∷ []) more rest End)))
  one None instance = refl
  one (Some listed) None = refl
  one (Some listed) (Some entries) = new listed entries (fitted first.kinds listed.interface entries) (list_any (nat_eq listed.interface) (interfaces first.uses))

is_alone : (imports : Entries) (first : First) → verdict_alone (first_from first imports) ≡ verdict_from first.uses first.kinds imports End
is_alone End first = refl
is_alone (More name item rest) first = one name rest first (is_alone rest) (listed_as name) (instance_in item)

first_holds : (imports : Entries) → IsVerdict (alone imports) (verdict_alone (first_of imports))
unfolding verdict
first_holds imports = subst (IsVerdict (alone imports)) (sym (is_alone imports (record { uses = []; kinds = [] }))) (verdict_holds (alone imports))

pub alone_too : (imports : Entries) (o : Option FirstVerdict) → IfSome o (λ v. v ≡ first_of imports) → IfSome o (λ v. IsVerdict (alone imports) (verdict_alone v))
alone_too imports None h = tt
alone_too imports (Some v) h = subst (λ w. IsVerdict (alone imports) (verdict_alone w)) (sym h) (first_holds imports)
