-- What is known of the imports so far, and what one more adds to it.
use Rattle.std.proofs.Common.{◌≡◌, ◌∙◌, ap, refl, sym, subst, ℕ, List, [], ◌∷◌, ◌++◌, Bool, true, false, Option, Some, None, nat_eq}
use Rattle.std.specs.Prelude.{IsTrue, All, Contains, is_some}
use Rattle.std.specs.Cmp.{nat_eq_equiv}
use Rattle.std.specs.List.{IsDistinct, list_any}
use Rattle.std.proofs.lemmas.Bool.{false≢true}
use Rattle.std.proofs.lemmas.List.{map-append}
use Rattle.std.proofs.lemmas.List.Elements.{All-nil, All-cons, All-head, All-tail}
use Rattle.std.proofs.lemmas.Map.Keys.{IsDistinct-push}
use Rattle.wit_types.specs.Plain.{Name}
use Rattle.comp_types.specs.Items.{Item, Entries, End, and_entry}
use Rattle.comp_types.specs.Equality.{HasEach, IsOneToOne}
use Rattle.comp_types.specs.Substitution.{partner_of}
use Rattle.comp_types.specs.Matching.{Pairs, matched_entries}
use Rattle.comp_types.proofs.MeetLaws.{equal_number, same_number, agrees-before, AllMeet}
use Rattle.comp_types.proofs.ValueLaws.{Goes}
use Rattle.comp_types.proofs.ItemLaws.{entries-sound, entries-complete, is_that}
use Rattle.wasi_match.specs.Names.{Versioned}
use Rattle.wasi_match.specs.declared.listed.ListedUse.{ListedUse}
use Rattle.wasi_match.specs.Offered.{offered}
use Rattle.wasi_match.specs.Listed.{IsNamed, IsUse, AreUses, AreListed, interfaces}
use Rattle.wasi_match.specs.Kinds.{turned}
use Rattle.wasi_match.specs.Verdicts.{IsMistyped}
use Rattle.wasi_match.specs.Begun.{IsOf, IsBegun, Fits}
use Rattle.wasi_match.proofs.KindLaws.{LeadBack, turned-sound, turned-complete}
use Rattle.wasi_match.proofs.UseLaws.{one_name, uses-push, uses-last}

-- ---- nothing so far

pub begun_none : IsBegun End [] []
unfolding IsDistinct
begun_none = record {
  fits = λ kinds h. refl;
  forced = λ kinds one others h. All-nil (λ (p : ℕ × ℕ). IsTrue (kinds p.1 p.0));
  apart = refl;
  once = tt;
}

-- ---- pairs that a relation has

abbrev HasAll : (ℕ → ℕ → Bool) → Pairs → Type 0
HasAll kinds by = All (λ (p : ℕ × ℕ). IsTrue (kinds p.1 p.0)) by

all_meet : (kinds : ℕ → ℕ → Bool) (by : Pairs) → HasAll kinds by → AllMeet (IsOf kinds) by
all_meet kinds [] h = tt
all_meet kinds (p ∷ by) h = (All-head (λ (q : ℕ × ℕ). IsTrue (kinds q.1 q.0)) p by h, all_meet kinds by (All-tail (λ (q : ℕ × ℕ). IsTrue (kinds q.1 q.0)) p by h))

has_all : (kinds : ℕ → ℕ → Bool) (by : Pairs) → AllMeet (IsOf kinds) by → HasAll kinds by
has_all kinds [] h = All-nil (λ (p : ℕ × ℕ). IsTrue (kinds p.1 p.0))
has_all kinds (p ∷ by) h = All-cons (λ (q : ℕ × ℕ). IsTrue (kinds q.1 q.0)) p by h.0 (has_all kinds by h.1)

some_is : (o : Option Pairs) → is_some o ≡ true → (last : Pairs) × (o ≡ Some last)
some_is None h = absurd (false≢true h)
some_is (Some last) h = (last, refl)

-- ---- what so far is listed

that-is : (x : ℕ) (o : Option ℕ) → is_that x o ≡ true → o ≡ Some x
that-is x None h = absurd (false≢true h)
that-is x (Some z) h = ap Some (equal_number z x h)

is-that : (x : ℕ) (o : Option ℕ) → o ≡ Some x → is_that x o ≡ true
is-that x o e = rw e (same_number x)

abbrev kinds_of : Pairs → ℕ → ℕ → Bool
kinds_of by kind resource = is_that kind (partner_of by resource)

kinds-one : (by last : Pairs) → LeadBack by last → IsOneToOne (kinds_of by)
kinds-one by last back = (
  λ x y z h g.
      let a = back y x (that-is x (partner_of by y) h) in
      let b = back z x (that-is x (partner_of by z) g) in
      cc,
  λ x y z h g.
      let a = that-is x (partner_of by z) h in
      let b = that-is y (partner_of by z) g in
      cc,
)

pub begun_listed : (before : Entries) (uses : List ListedUse) (by : Pairs) → IsBegun before uses by → AreListed before uses
begun_listed before uses by b =
    let l = some_is (turned [] by) b.apart in
    record {
      kinds = kinds_of by;
      one = kinds-one by l.0 (turned-sound [] l.0 by l.1).1;
      each = b.fits (kinds_of by) (λ resource kind e. is-that kind (partner_of by resource) e);
      once = b.once;
    }

-- ---- one import more

module _ (before : Entries) (uses : List ListedUse) (by : Pairs) (b : IsBegun before uses by) (name : Name) (item : Item) (listed : Versioned) (entries : Entries)
    (named : IsNamed name item listed entries) where
  -- what any import by this name asks for matches, with pairs that the relation has
  goes : (kinds : ℕ → ℕ → Bool) → IsOneToOne kinds → (others : List ListedUse) → AreUses (IsOf kinds) (and_entry before name item) others
      → Goes (IsOf kinds) (matched_entries by (offered listed.interface) entries)
  goes kinds one others h =
      let r = uses-last (IsOf kinds) before name item others h in
      let last = r.1 in
      let u = r.4 in
      let o = one_name name item _ _ u.entries entries u.named named in
      let number : last.interface ≡ listed.interface = ap (λ v. v.interface) o.0 in
      let fits = subst (λ n. HasEach (IsOf kinds) (offered n) u.entries) number u.fits in
      let fits = subst (HasEach (IsOf kinds) (offered listed.interface)) o.1 fits in
      entries-complete (IsOf kinds) (λ x z y f g. one.1 x z y f g) by (offered listed.interface) entries (all_meet kinds by (b.forced kinds one r.0 r.3)) fits

  pub begun_more : (functions : List ℕ) (more : Pairs) (taken : ListedUse) → Fits (Some functions) by more listed.interface entries → list_any (nat_eq listed.interface) (interfaces uses) ≡ false
      → taken ≡ record { interface = listed.interface; version = listed.version; functions = functions } → IsBegun (and_entry before name item) (uses ++ taken ∷ []) more
  begun_more functions more taken fit new is = record {
    fits = λ kinds h.
        let s = entries-sound (IsOf kinds) by more (offered listed.interface) entries fit.0 in
        let one : IsUse (IsOf kinds) name item (record { interface = listed.interface; version = listed.version; functions = functions }) =
        record { entries = entries; named = named; fits = s.1 h; functions = fit.2 } in
        uses-push (IsOf kinds) before name item uses taken (b.fits kinds (agrees-before (IsOf kinds) by more s.0 h)) (subst (IsUse (IsOf kinds) name item) (sym is) one);
    forced = λ kinds one others h.
        let g = goes kinds one others h in
        let same : g.0 ≡ more = let e = g.1 in let f = fit.0 in cc in
        subst (HasAll kinds) same (has_all kinds g.0 g.2);
    apart = fit.1;
    once =
        let n : taken.interface ≡ listed.interface = ap (λ (u : ListedUse). u.interface) is in
        let d = IsDistinct-push nat_eq_equiv (interfaces uses) taken.interface b.once (ap (λ i. list_any (nat_eq i) (interfaces uses)) n ∙ new) in
        subst (IsDistinct nat_eq) (sym (map-append (λ (u : ListedUse). u.interface) uses (taken ∷ []))) d;
  }

  pub begun_mistyped : (new : Pairs) → Fits None by new listed.interface entries → (Contains (interfaces uses) listed.interface → ⊥) → IsMistyped before name item uses
  begun_mistyped new fit other = (
    listed,
    entries,
    named,
    other,
    λ more l.
        let kinds = l.kinds in
        let one = l.one in
        let g = goes kinds one more l.each in
        let t = turned-complete (IsOf kinds) (λ x z y h f. one.0 y x z h f) [] g.0 tt g.2 in
        let none = fit g.0 g.1 in
        let is = t.1 in
        absurd (cc),
  )
