-- The draft of a component further out, by its place in the list that is kept.
use Rattle.std.proofs.Common.{◌≡◌, ◌+◌, ◌<◌, ap, subst, refl, ℕ, zero, suc, List, [], ◌∷◌, length, reverse, None, slice_get, arith}
use Rattle.std.proofs.lemmas.List.{length-reverse}
use Rattle.std.proofs.lemmas.Option.{slice_get_past}
use Rattle.wasm_ast.specs.Boxed.{Held}
use Rattle.wasm_ast.specs.declared.module.Module.{Module}
use Rattle.comp_defining.proofs.AroundLemmas.{rev_at}
use Rattle.comp_link.specs.Planned.{PlannedComponent}
use Rattle.comp_linking.specs.declared.draft.Draft.{Draft}
use Rattle.comp_linking.specs.Walks.{At, AreDrafts}
use Rattle.comp_linking.specs.Names.{AreNamed}

each_at : (ms : List (Held Module)) (cs : List PlannedComponent) (outer : List At) (drafts : List Draft) → AreDrafts ms cs outer drafts → (i : ℕ) → AreNamed ms cs (slice_get outer i) (slice_get drafts i)
each_at ms cs [] [] h i = tt
each_at ms cs [] (d ∷ drafts) h i = absurd h
each_at ms cs (a ∷ outer) [] h i = absurd h
each_at ms cs (a ∷ outer) (d ∷ drafts) h zero = h.0
each_at ms cs (a ∷ outer) (d ∷ drafts) h (suc i) = each_at ms cs outer drafts h.1 i

each_count : (ms : List (Held Module)) (cs : List PlannedComponent) (outer : List At) (drafts : List Draft) → AreDrafts ms cs outer drafts → length outer ≡ length drafts
each_count ms cs [] [] h = refl
each_count ms cs [] (d ∷ drafts) h = absurd h
each_count ms cs (a ∷ outer) [] h = absurd h
each_count ms cs (a ∷ outer) (d ∷ drafts) h = ap suc (each_count ms cs outer drafts h.1)

pub draft_found : (ms : List (Held Module)) (cs : List PlannedComponent) (outer : List At) (a : At) (drafts : List Draft) (count index : ℕ) → AreDrafts ms cs outer (reverse drafts) → index + count ≡ length drafts → 0 < count
    → AreNamed ms cs (slice_get (a ∷ outer) count) (slice_get drafts index)
draft_found ms cs outer a drafts zero index h e lt = absurd (omega arith)
draft_found ms cs outer a drafts (suc k) index h e lt = subst (AreNamed ms cs (slice_get outer k)) (rev_at drafts index k (omega arith)) (each_at ms cs outer (reverse drafts) h k)

pub draft_past : (ms : List (Held Module)) (cs : List PlannedComponent) (outer : List At) (a : At) (drafts : List Draft) (count : ℕ) → AreDrafts ms cs outer (reverse drafts) → length drafts < count → slice_get (a ∷ outer) count ≡ None
draft_past ms cs outer a drafts zero h lt = absurd (omega arith)
draft_past ms cs outer a drafts (suc k) h lt = slice_get_past outer k (omega (arith, each_count ms cs outer (reverse drafts) h, length-reverse drafts))
