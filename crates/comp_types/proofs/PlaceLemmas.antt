-- The places of names with one more.
use Rattle.std.proofs.Common.{◌≡◌, ◌∙◌, ap, sym, refl, ℕ, ◌<◌, zero, suc, List, [], ◌∷◌, Bool, true, false, Option, Some, None, cond, length, get_or, arith}
use Rattle.std.specs.Prelude.{is_some, option_map, string_bytes, Result, Ok, Err, OnErr}
use Rattle.std.specs.BTreeMap.{is_at}
use Rattle.std.specs.Cmp.Lexicographic.{slice_cmp}
use Rattle.std.specs.Map.{lookup}
use Rattle.std.specs.Option.{option_or}
use Rattle.std.specs.Ordering.{nat_cmp}
use Rattle.std.proofs.lemmas.Bool.{false≢true}
use Rattle.wit_types.specs.Plain.{Name}
use Rattle.comp_types.specs.Items.{Item, Entries, End, More, same_name, look_up, and_entry}
use Rattle.comp_types.specs.Placed.{place_of, first_place, HasPlaces}
use Rattle.comp_types.specs.Views.{item_of, entries_of}
use Rattle.comp_types.specs.declared.places.Places.{Places}
use Rattle.comp_types.specs.declared.types.InstanceEntry.{InstanceEntry}
use Rattle.comp_types.proofs.ValueLaws.{name-sound}

pub on_err : {T E P : Type 0} (r : Result T E) → P → OnErr r P
on_err (Ok x) p = tt
on_err (Err e) p = p

pub same-places : (m n : Places) → m.by_name.entries ≡ n.by_name.entries → (q : Name) → place_of m q ≡ place_of n q
unfolding place_of
same-places m n e q = ap (λ es. lookup (is_at (λ k. slice_cmp nat_cmp q (string_bytes k))) es) e

-- ---- one name more

or_none : (o : Option ℕ) → o ≡ option_or o None
or_none None = refl
or_none (Some x) = refl

or_some : (o : Option ℕ) (place : ℕ) → is_some o ≡ true → o ≡ option_or o (Some place)
or_some None place h = absurd (false≢true h)
or_some (Some x) place h = refl

not_some : (o : Option ℕ) → is_some o ≡ false → o ≡ None
not_some None h = refl
not_some (Some x) h = absurd (false≢true (sym h))

known : (place_of : Name → Option ℕ) (n q : Name) (place : ℕ) (same : Bool) → same_name n q ≡ same → is_some (place_of n) ≡ true → place_of q ≡ option_or (place_of q) (cond same (Some place) None)
known place_of n q place true e h = or_some (place_of q) place (ap (λ m. is_some (place_of m)) (sym (name-sound n q e)) ∙ h)
known place_of n q place false e h = or_none (place_of q)

-- a name that has a place keeps it
pub known-name : (place_of : Name → Option ℕ) (n q : Name) (place : ℕ) → is_some (place_of n) ≡ true → place_of q ≡ option_or (place_of q) (cond (same_name n q) (Some place) None)
known-name place_of n q place h = known place_of n q place (same_name n q) refl h

new_at : (place_of : Name → Option ℕ) (n q : Name) (place : ℕ) (same : Bool) → same_name n q ≡ same → is_some (place_of n) ≡ false → cond same (Some place) (place_of q) ≡ option_or (place_of q) (cond same (Some place) None)
new_at place_of n q place true e h = sym (ap (λ o. option_or o (Some place)) (ap place_of (sym (name-sound n q e)) ∙ not_some (place_of n) h))
new_at place_of n q place false e h = or_none (place_of q)

-- a name that has none gets this one
pub new-name : (place_of : Name → Option ℕ) (n q : Name) (place : ℕ) → is_some (place_of n) ≡ false → cond (same_name n q) (Some place) (place_of q) ≡ option_or (place_of q) (cond (same_name n q) (Some place) None)
new-name place_of n q place h = new_at place_of n q place (same_name n q) refl h

-- ---- one entry more

or_next : (same : Bool) (o p : Option ℕ) → cond same (Some 0) (option_map suc (option_or o p)) ≡ option_or (cond same (Some 0) (option_map suc o)) (option_map suc p)
or_next true o p = refl
or_next false None p = refl
or_next false (Some x) p = refl

next_if : (same : Bool) (place : ℕ) → option_map suc (cond same (Some place) None) ≡ cond same (Some (suc place)) None
next_if true place = refl
next_if false place = refl

pub place-and : (es : List InstanceEntry) (n q : Name) (i : Item) → first_place q (and_entry (entries_of es) n i) ≡ option_or (first_place q (entries_of es)) (cond (same_name n q) (Some (length es)) None)
place-and [] n q i = refl
place-and (e ∷ es) n q i =
    ap (λ o. cond (same_name e.name q) (Some 0) (option_map suc o)) (place-and es n q i)
    ∙ (or_next (same_name e.name q) (first_place q (entries_of es)) _
    ∙ ap (option_or (first_place q (entries_of (e ∷ es)))) (next_if (same_name n q) (length es)))

-- ---- what stands at a place

here : (same : Bool) (o : Option ℕ) (i : Item) (p : Option Item) → (o ≡ None → p ≡ None) → cond same (Some 0) (option_map suc o) ≡ None → cond same (Some i) p ≡ None
here true o i p h e = cc
here false None i p h e = h refl
here false (Some x) i p h e = cc

pub nowhere : (q : Name) (es : Entries) → first_place q es ≡ None → look_up q es ≡ None
nowhere q End e = refl
nowhere q (More n i rest) e = here (same_name n q) (first_place q rest) i (look_up q rest) (nowhere q rest) e

abbrev StandsAt : (q : Name) (es : List InstanceEntry) (place : ℕ) → Type 0
StandsAt q es place = (place < length es) × ((d : InstanceEntry) → look_up q (entries_of es) ≡ Some (item_of (get_or es place d).ty))

at : (same : Bool) (q : Name) (e : InstanceEntry) (es : List InstanceEntry) (o : Option ℕ) (place : ℕ) → same_name e.name q ≡ same → ((x : ℕ) → o ≡ Some x → StandsAt q es x)
    → cond same (Some 0) (option_map suc o) ≡ Some place → StandsAt q (e ∷ es) place
at true q e es o place is h eq = let zero_is : zero ≡ place = cc in rw (← zero_is) (omega arith, λ d. ap (λ b. cond b (Some (item_of e.ty)) (look_up q (entries_of es))) is)
at false q e es (Some x) place is h eq =
    let next : suc x ≡ place = cc in
    let r = h x refl in
    rw (← next) (omega (arith, r.0), λ d. ap (λ b. cond b (Some (item_of e.ty)) (look_up q (entries_of es))) is ∙ r.1 d)
at false q e es None place is h eq = cc

pub stands-at : (q : Name) (es : List InstanceEntry) (place : ℕ) → first_place q (entries_of es) ≡ Some place → StandsAt q es place
stands-at q [] place eq = cc
stands-at q (e ∷ es) place eq = at (same_name e.name q) q e es (first_place q (entries_of es)) place refl (λ x. stands-at q es x) eq

-- ---- the places of entries

pub placed-and : (es : List InstanceEntry) (m new : Places) (n key : Name) (i : Item) (len : ℕ) → HasPlaces (entries_of es) m → key ≡ n → len ≡ length es
    → ((q : Name) → place_of new q ≡ option_or (place_of m q) (cond (same_name key q) (Some len) None)) → HasPlaces (and_entry (entries_of es) n i) new
placed-and es m new n key i len has is_key is_len h = λ q.
    h q ∙ (ap (λ o. option_or o (cond (same_name key q) (Some len) None)) (has q)
    ∙ (ap (λ k. option_or (first_place q (entries_of es)) (cond (same_name k q) (Some len) None)) is_key
    ∙ (ap (λ l. option_or (first_place q (entries_of es)) (cond (same_name n q) (Some l) None)) is_len ∙ sym (place-and es n q i))))
