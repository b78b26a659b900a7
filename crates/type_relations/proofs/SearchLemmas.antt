-- Searches that go on, each type once.
use Rattle.std.proofs.Common.{◌≡◌, ◌∙◌, ap, refl, sym, subst, ℕ, List, [], ◌∷◌, ◌++◌, Bool, true, false, Some, slice_get}
use Rattle.std.specs.Prelude.{◌⊎◌, ◌||◌, ◌==◌}
use Rattle.std.proofs.lemmas.Bool.{false≢true}
use Rattle.std.proofs.lemmas.Bool.Decides.{Decides-eqb}
use Rattle.std.proofs.lemmas.Option.{same_Some}
use mathlib.Core.Logic.{inl, inr, ⊎_elim}
use Rattle.wit_types.specs.Plain.{Plain}
use Rattle.comp_types.specs.GivenResources.{is_among, named_in_value}
use Rattle.type_relations.specs.Once.{and_once, and_each, AreAmong}
use Rattle.type_relations.specs.Searches.{IsSearched, Finds}
use Rattle.type_relations.specs.declared.search.Search.{Search}
use Rattle.type_relations.proofs.OnceLemmas.{each-append, once-among, onward}
use Rattle.type_relations.proofs.SearchLaws.{each-stays, each-there, there-each}

either : (a b : Bool) → (a || b) ≡ true → (a ≡ true) ⊎ (b ≡ true)
either true b h = inl refl
either false b h = inr h

-- ---- steps of a search

pub searched-none : (tys : List Plain) (s : Search) → s.searched.keys ≡ [] → IsSearched tys s
searched-none tys s e = λ at ty m g. absurd (false≢true (ap (λ ks. is_among ks at) (sym e) ∙ m))

pub finds-nothing : (tys : List Plain) (s : Search) (rs : List ℕ) → rs ≡ [] → Finds tys s s rs
finds-nothing tys s rs e = λ h. (sym (ap (and_each s.found) e), h)

-- more was found, and nothing more was searched
pub finds-written : (tys : List Plain) (old new : Search) (rs : List ℕ) → new.found ≡ and_each old.found rs → new.searched.keys ≡ old.searched.keys → Finds tys old new rs
finds-written tys old new rs f k = λ h. (
  f,
  λ at ty m g.
      subst (λ fs. AreAmong fs (named_in_value ty)) (sym f) (there-each old.found rs (named_in_value ty) (h at ty (ap (λ ks. is_among ks at) (sym k) ∙ m) g)),
)

-- what was searched before
pub finds-searched : (tys : List Plain) (s : Search) (at : ℕ) → is_among s.searched.keys at ≡ true → (ty : Plain) → slice_get tys at ≡ Some ty → Finds tys s s (named_in_value ty)
finds-searched tys s at m ty g = λ h. (sym (each-stays s.found (named_in_value ty) (h at ty m g)), h)

-- what is remembered as searched
marked-same : (tys : List Plain) (new : Search) (at other : ℕ) (ty t : Plain) → slice_get tys at ≡ Some ty → AreAmong new.found (named_in_value ty) → (at == other) ≡ true → slice_get tys other ≡ Some t → AreAmong new.found (named_in_value t)
marked-same tys new at other ty t g h e i =
    subst (λ p. AreAmong new.found (named_in_value p)) (same_Some ty t (sym g ∙ (ap (slice_get tys) ((Decides-eqb at other).0 e) ∙ i))) h

marked-before : (tys : List Plain) (middle new : Search) (other : ℕ) (t : Plain) → IsSearched tys middle → new.found ≡ middle.found → is_among middle.searched.keys other ≡ true → slice_get tys other ≡ Some t → AreAmong new.found (named_in_value t)
marked-before tys middle new other t s f m i = subst (λ fs. AreAmong fs (named_in_value t)) (sym f) (s other t m i)

marked-searched : (tys : List Plain) (middle new : Search) (at : ℕ) (ty : Plain) → new.found ≡ middle.found → new.searched.keys ≡ and_once middle.searched.keys at → slice_get tys at ≡ Some ty
    → AreAmong new.found (named_in_value ty) → IsSearched tys middle → IsSearched tys new
marked-searched tys middle new at ty f k g h s = λ other t m i.
    ⊎_elim (λ e. marked-before tys middle new other t s f e i) (λ e. marked-same tys new at other ty t g h e i)
    (either (is_among middle.searched.keys other) (at == other) (sym (once-among middle.searched.keys at other) ∙ (ap (λ ks. is_among ks other) (sym k) ∙ m)))

pub finds-marked : (tys : List Plain) (old middle new : Search) (at : ℕ) → new.found ≡ middle.found → new.searched.keys ≡ and_once middle.searched.keys at
    → (ty : Plain) → slice_get tys at ≡ Some ty → Finds tys old middle (named_in_value ty) → Finds tys old new (named_in_value ty)
finds-marked tys old middle new at f k ty g finds = λ h.
    let m = finds h in
    let found : new.found ≡ and_each old.found (named_in_value ty) = f ∙ m.0 in
    (found, marked-searched tys middle new at ty f k g (subst (λ fs. AreAmong fs (named_in_value ty)) (sym found) (each-there old.found (named_in_value ty))) m.1)

pub finds-both : (tys : List Plain) (old middle new : Search) (rs qs : List ℕ) → Finds tys old middle rs → Finds tys middle new qs → Finds tys old new (rs ++ qs)
finds-both tys old middle new rs qs f g = λ h.
    let k = f h in
    let i = g k.1 in
    (i.0 ∙ (ap (λ fs. and_each fs qs) k.0 ∙ sym (each-append old.found rs qs)), i.1)

-- ---- walks

-- a walk that has these left
abbrev pub Going : List Plain → Search → Search → (all rest : List ℕ) → Type 0
Going tys start now all rest = IsSearched tys start → (and_each start.found all ≡ and_each now.found rest) × IsSearched tys now

pub going-on : (tys : List Plain) (start now new : Search) (all rest first more : List ℕ) → Going tys start now all rest → rest ≡ first ++ more → Finds tys now new first → Going tys start new all more
going-on tys start now new all rest first more g e f = λ h.
    let k = g h in
    let i = f k.1 in
    (onward (and_each start.found all) now.found new.found first more (k.0 ∙ ap (and_each now.found) e) i.0, i.1)

pub going-all : (tys : List Plain) (start now : Search) (all rest : List ℕ) → Going tys start now all rest → rest ≡ [] → Finds tys start now all
going-all tys start now all rest g e = λ h.
    let k = g h in
    (sym (k.0 ∙ ap (and_each now.found) e), k.1)

-- a search from nothing
pub finds-fresh : (tys : List Plain) (start now : Search) (rs : List ℕ) → start.found ≡ [] → start.searched.keys ≡ [] → Finds tys start now rs → now.found ≡ and_each [] rs
finds-fresh tys start now rs e k f = (f (searched-none tys start k)).0 ∙ ap (λ fs. and_each fs rs) e
