-- Entries in two parts.
use Rattle.std.proofs.Common.{◌≡◌, ◌∙◌, ◌⊎◌, inl, inr, ap, refl, sym, ℕ, List, [], ◌∷◌, ◌++◌, Bool, true, false}
use Rattle.std.specs.Prelude.{◌||◌}
use Rattle.std.proofs.lemmas.Bool.{false≢true}
use Rattle.wit_types.specs.Plain.{Name}
use Rattle.comp_types.specs.Items.{Item, Entries, End, More, and_entry}
use Rattle.comp_types.specs.Resources.{item_has_resource, entries_have_resource}
use Rattle.comp_types.specs.Views.{item_of, entries_of}
use Rattle.comp_types.specs.declared.types.InstanceEntry.{InstanceEntry}
use Rattle.wasi_match.specs.declared.listed.ListedUse.{ListedUse}
use Rattle.wasi_match.specs.Listed.{AreUses}
use Rattle.wasi_match.specs.Verdicts.{joined}

pub joined-entry : (before : Entries) (name : Name) (item : Item) (behind : Entries) → joined before (More name item behind) ≡ joined (and_entry before name item) behind
joined-entry End name item behind = refl
joined-entry (More m j rest) name item behind = ap (More m j) (joined-entry rest name item behind)

pub joined-end : (before : Entries) → joined before End ≡ before
joined-end End = refl
joined-end (More name item rest) = ap (More name item) (joined-end rest)

pub joined-of : (xs ys : List InstanceEntry) → entries_of (xs ++ ys) ≡ joined (entries_of xs) (entries_of ys)
joined-of [] ys = refl
joined-of (x ∷ xs) ys = ap (More x.name (item_of x.ty)) (joined-of xs ys)

-- ---- two places in the same entries

-- the first stands before the second
abbrev pub IsEarlier : (before : Entries) (name : Name) (item : Item) (further : Entries) → Type 0
IsEarlier before name item further = (mid : Entries) × (further ≡ joined (and_entry before name item) mid)

abbrev pub Places : (a : Entries) (m : Name) (i : Item) (b : Entries) (n : Name) (j : Item) → Type 0
Places a m i b n j = ((a ≡ b) × (m ≡ n) × (i ≡ j)) ⊎ (IsEarlier a m i b ⊎ IsEarlier b n j a)

one-more : (k : Name) (l : Item) (a : Entries) (m : Name) (i : Item) (b : Entries) (n : Name) (j : Item) → Places a m i b n j → Places (More k l a) m i (More k l b) n j
one-more k l a m i b n j p = elim p [
  | inl s ↦ inl (ap (More k l) s.0, s.1, s.2)
  | inr q ↦ elim q [ inl e ↦ inr (inl (e.0, ap (More k l) e.1)) | inr e ↦ inr (inr (e.0, ap (More k l) e.1)) ]
]

pub two_places : (a : Entries) (m : Name) (i : Item) (r b : Entries) (n : Name) (j : Item) (s : Entries) → joined a (More m i r) ≡ joined b (More n j s) → Places a m i b n j
two_places End m i r End n j s e = let name : m ≡ n = cc in let item : i ≡ j = cc in inl (refl, name, item)
two_places End m i r (More k l b) n j s e =
    let name : m ≡ k = cc in
    let item : i ≡ l = cc in
    inr (inl (b, sym (ap (λ x. More x i b) name ∙ ap (λ x. More k x b) item)))
two_places (More k l a) m i r End n j s e =
    let name : k ≡ n = cc in
    let item : l ≡ j = cc in
    inr (inr (a, ap (λ x. More x l a) name ∙ ap (λ x. More n x a) item))
two_places (More k l a) m i r (More o p b) n j s e =
    let name : k ≡ o = cc in
    let item : l ≡ p = cc in
    let rest : joined a (More m i r) ≡ joined b (More n j s) = cc in
    let more = one-more k l a m i b n j (two_places a m i r b n j s rest) in
    rw (← name, ← item) more

-- ---- resources among entries

or_true : (b : Bool) → (b || true) ≡ true
or_true true = refl
or_true false = refl

either : (a b : Bool) → (a || b) ≡ false → (a ≡ false) × (b ≡ false)
either true b h = absurd (false≢true (sym h))
either false b h = (refl, h)

pub has_resource-there : (before : Entries) (name : Name) (item : Item) (behind : Entries) → item_has_resource item ≡ true → entries_have_resource (joined before (More name item behind)) ≡ true
has_resource-there End name item behind h = ap (λ b. b || entries_have_resource behind) h
has_resource-there (More m j rest) name item behind h = ap (λ b. item_has_resource j || b) (has_resource-there rest name item behind h) ∙ or_true (item_has_resource j)

-- ---- imports in front of others

pub uses-front : (Meets : ℕ → ℕ → Type 0) (front back : Entries) (uses : List ListedUse) → AreUses Meets (joined front back) uses
    → (us : List ListedUse) × (vs : List ListedUse) × (uses ≡ us ++ vs) × AreUses Meets front us
uses-front Meets End back uses a = ([], uses, refl, refl)
uses-front Meets (More name item rest) back uses a =
    let r = uses-front Meets rest back a.1 a.4 in
    (a.0 ∷ r.0, r.1, a.2 ∙ ap (λ us. a.0 ∷ us) r.2, (a.0, r.0, refl, a.3, r.3))
