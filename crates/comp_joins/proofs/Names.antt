-- What a type names is among what is known, and the resources that an instance type declares are others, each of which it shows.
use Rattle.std.proofs.Common.{◌≡◌, ◌⊎◌, inl, inr, ℕ, ◌+◌, ◌<◌, ◌≤◌, ◌||◌, not, nat_eq, cond, List, [], ◌∷◌, ◌++◌, map, length, Bool, true, false, Option, Some, None, refl, sym, ◌∙◌, subst, arith}
use Rattle.std.proofs.Math.Path.{ap₂}
use Rattle.std.proofs.lemmas.Bool.{false≢true, eqb-true, eqb-false}
use Rattle.wit_types.specs.Plain.{Plain, Parts, PlainFunc, BoolType, SignedType, UnsignedType, CharType, StringType, ListType, RecordType, VariantType, FlagsType, OwnType, BorrowType, End as NoParts, More as Part, Bare}
use Rattle.comp_types.specs.Items.{Item, Kind, Entries, FuncItem, InstanceItem, KindItem, ResourceKind, ValueKind, FuncKind, InstanceKind, End, More}
use Rattle.comp_types.specs.Substitution.{partner_in, value_with, parts_with, answer_with, func_with, item_with, kind_with, entries_with}
use Rattle.comp_types.specs.GivenResources.{is_among, without, named_in_value, named_in_parts, named_in_answer, named_in_func, named_in_item, named_in_kind, named_in, numbered}
use Rattle.comp_types.specs.Added.{new_numbers}
use Rattle.comp_inside.specs.Linked.{Each}
use Rattle.comp_joins.proofs.Shown.{Shown, shown_with}

-- ---- lists of resources

pub each_first : (P : ℕ → Type 0) (xs ys : List ℕ) → Each P (xs ++ ys) → Each P xs
each_first P [] ys h = tt
each_first P (x ∷ xs) ys h = (h.0, each_first P xs ys h.1)

pub each_second : (P : ℕ → Type 0) (xs ys : List ℕ) → Each P (xs ++ ys) → Each P ys
each_second P [] ys h = h
each_second P (x ∷ xs) ys h = each_second P xs ys h.1

pub each_both : (P : ℕ → Type 0) (xs ys : List ℕ) → Each P xs → Each P ys → Each P (xs ++ ys)
each_both P [] ys h k = k
each_both P (x ∷ xs) ys h k = (h.0, each_both P xs ys h.1 k)

pub each_then : (P Q : ℕ → Type 0) → ((r : ℕ) → P r → Q r) → (rs : List ℕ) → Each P rs → Each Q rs
each_then P Q f [] h = tt
each_then P Q f (r ∷ rs) h = (f r h.0, each_then P Q f rs h.1)

each_two : (P Q R : ℕ → Type 0) → ((r : ℕ) → P r → Q r → R r) → (rs : List ℕ) → Each P rs → Each Q rs → Each R rs
each_two P Q R f [] h k = tt
each_two P Q R f (r ∷ rs) h k = (f r h.0 k.0, each_two P Q R f rs h.1 k.1)

pub among_each : (P : ℕ → Type 0) (own : List ℕ) (r : ℕ) → is_among own r ≡ true → Each P own → P r
among_each P [] r is h = absurd (false≢true is)
among_each P (o ∷ own) r is h = go (nat_eq o r) refl is (λ rest. among_each P own r rest h.1)
  where
    go : (b : Bool) → nat_eq o r ≡ b → (b || is_among own r) ≡ true → (is_among own r ≡ true → P r) → P r
    go true e is' later = subst P (eqb-true o r e) h.0
    go false e is' later = later is'

-- each is among all
pub each_among : (rs : List ℕ) → Each (λ r. is_among rs r ≡ true) rs
each_among [] = tt
each_among (x ∷ rs) = (here (nat_eq x x) refl, each_then (λ r. is_among rs r ≡ true) (λ r. is_among (x ∷ rs) r ≡ true) later rs (each_among rs))
  where
    here : (b : Bool) → nat_eq x x ≡ b → (b || is_among rs x) ≡ true
    here true e = refl
    here false e = absurd (eqb-false x x e refl)

    or_true : (b c : Bool) → c ≡ true → (b || c) ≡ true
    or_true true c e = refl
    or_true false c e = e

    later : (r : ℕ) → is_among rs r ≡ true → is_among (x ∷ rs) r ≡ true
    later r e = or_true (nat_eq x r) (is_among rs r) e

-- it is one of the instance type's own, or else one of these
abbrev pub OwnOr : List ℕ → (ℕ → Type 0) → ℕ → Type 0
OwnOr own P r = (is_among own r ≡ true) ⊎ P r

pub without_each : (P : ℕ → Type 0) (own rs : List ℕ) → Each P (without own rs) → Each (OwnOr own P) rs
without_each P own [] h = tt
without_each P own (r ∷ rs) h = go (is_among own r) refl h (without_each P own rs)
  where
    go : (b : Bool) → is_among own r ≡ b → Each P (cond (not b) (r ∷ without own rs) (without own rs)) → (Each P (without own rs) → Each (OwnOr own P) rs) → Each (OwnOr own P) (r ∷ rs)
    go true e h' later = (inl e, later h')
    go false e h' later = (inr h'.0, later h'.1)

pub each_without : (P : ℕ → Type 0) (own rs : List ℕ) → Each (OwnOr own P) rs → Each P (without own rs)
each_without P own [] h = tt
each_without P own (r ∷ rs) h = go (is_among own r) refl h.0 (each_without P own rs h.1)
  where
    go : (b : Bool) → is_among own r ≡ b → OwnOr own P r → Each P (without own rs) → Each P (cond (not b) (r ∷ without own rs) (without own rs))
    go true e one later = later
    go false e (inl is) later = absurd (false≢true (sym e ∙ is))
    go false e (inr one) later = (one, later)

-- ---- what a type names

-- in front of n, and none of these
abbrev pub Apart : (ℕ → Type 0) → ℕ → ℕ → Type 0
Apart P n r = (r < n) × (P r → ⊥)

-- no two are one
abbrev pub Differ : List ℕ → Type 0
Differ [] = Unit {0}
Differ (r ∷ rs) = (is_among rs r ≡ false) × Differ rs

abbrev mutual
  -- P holds of each resource that it names. Those that an instance type declares have numbers in front of n of which P does not hold,
  -- differ, and stand in it.
  pub ItemNames : (ℕ → Type 0) → ℕ → Item → Type 0
  ItemNames P n (FuncItem ty) = Each P (named_in_func ty)
  ItemNames P n (InstanceItem entries) = AllName P n entries
  ItemNames P n (KindItem kind) = KindNames P n kind

  pub KindNames : (ℕ → Type 0) → ℕ → Kind → Type 0
  KindNames P n (ResourceKind r) = P r
  KindNames P n (ValueKind ty) = Each P (named_in_value ty)
  KindNames P n (FuncKind ty) = Each P (named_in_func ty)
  KindNames P n (InstanceKind own entries) = Each (Apart P n) own × Differ own × Each (Shown (InstanceItem entries)) own × AllName (OwnOr own P) n entries

  pub AllName : (ℕ → Type 0) → ℕ → Entries → Type 0
  AllName P n End = Unit {0}
  AllName P n (More name item rest) = ItemNames P n item × AllName P n rest

mutual
  pub item_named : (P : ℕ → Type 0) (n : ℕ) (item : Item) → ItemNames P n item → Each P (named_in_item item)
  item_named P n (FuncItem ty) h = h
  item_named P n (InstanceItem entries) h = all_named P n entries h
  item_named P n (KindItem kind) h = kind_named P n kind h

  pub kind_named : (P : ℕ → Type 0) (n : ℕ) (kind : Kind) → KindNames P n kind → Each P (named_in_kind kind)
  kind_named P n (ResourceKind r) h = (h, tt)
  kind_named P n (ValueKind ty) h = h
  kind_named P n (FuncKind ty) h = h
  kind_named P n (InstanceKind own entries) h = each_without P own (named_in entries) (all_named (OwnOr own P) n entries h.3)

  pub all_named : (P : ℕ → Type 0) (n : ℕ) (entries : Entries) → AllName P n entries → Each P (named_in entries)
  all_named P n End h = tt
  all_named P n (More name item rest) h = each_both P (named_in_item item) (named_in rest) (item_named P n item h.0) (all_named P n rest h.1)

-- ---- with other numbers

module _ (f : ℕ → ℕ) where
  abbrev With : (ℕ → Type 0) → ℕ → Type 0
  With Q r = Q (f r)

  mutual
    value_to : (Q : ℕ → Type 0) (ty : Plain) → Each (With Q) (named_in_value ty) → Each Q (named_in_value (value_with f ty))
    value_to Q BoolType h = tt
    value_to Q (SignedType width) h = tt
    value_to Q (UnsignedType width) h = tt
    value_to Q CharType h = tt
    value_to Q StringType h = tt
    value_to Q (ListType item) h = value_to Q item h
    value_to Q (RecordType form fields) h = parts_to Q fields h
    value_to Q (VariantType form cases) h = parts_to Q cases h
    value_to Q (FlagsType labels) h = tt
    value_to Q (OwnType r) h = h
    value_to Q (BorrowType r) h = h

    parts_to : (Q : ℕ → Type 0) (ps : Parts) → Each (With Q) (named_in_parts ps) → Each Q (named_in_parts (parts_with f ps))
    parts_to Q NoParts h = tt
    parts_to Q (Part name ty rest) h =
        each_both Q (named_in_value (value_with f ty)) (named_in_parts (parts_with f rest)) (value_to Q ty (each_first (With Q) (named_in_value ty) (named_in_parts rest) h))
        (parts_to Q rest (each_second (With Q) (named_in_value ty) (named_in_parts rest) h))
    parts_to Q (Bare name rest) h = parts_to Q rest h

  answer_to : (Q : ℕ → Type 0) (ty : Option Plain) → Each (With Q) (named_in_answer ty) → Each Q (named_in_answer (answer_with f ty))
  answer_to Q None h = tt
  answer_to Q (Some ty) h = value_to Q ty h

  pub func_to : (Q : ℕ → Type 0) (ty : PlainFunc) → Each (With Q) (named_in_func ty) → Each Q (named_in_func (func_with f ty))
  func_to Q ty h =
      each_both Q (named_in_parts (parts_with f ty.params)) (named_in_answer (answer_with f ty.answer)) (parts_to Q ty.params (each_first (With Q) (named_in_parts ty.params) (named_in_answer ty.answer) h))
      (answer_to Q ty.answer (each_second (With Q) (named_in_parts ty.params) (named_in_answer ty.answer) h))

  -- what instance types declare keeps its numbers, and is none of those that are known then
  abbrev pub Spares : (P Q : ℕ → Type 0) → ℕ → Type 0
  Spares P Q n = (r : ℕ) → Apart P n r → (f r ≡ r) × (Q r → ⊥)

  own_same : (P : ℕ → Type 0) (own : List ℕ) → ((r : ℕ) → P r → f r ≡ r) → Each P own → map f own ≡ own
  own_same P [] same h = refl
  own_same P (r ∷ own) same h = ap₂ (λ x xs. x ∷ xs) (same r h.0) (own_same P own same h.1)

  module _ (n n' : ℕ) (le : n ≤ n') where
    apart_to : (P Q : ℕ → Type 0) → Spares P Q n → (r : ℕ) → Apart P n r → Apart Q n' r
    apart_to P Q spares r h = (less r h.0, (spares r h).1)
      where
        less : (r : ℕ) → r < n → r < n'
        less r lt = omega (arith, lt, le)

    inner_spares : (P Q : ℕ → Type 0) (own : List ℕ) → Spares P Q n → Spares (OwnOr own P) (OwnOr own Q) n
    inner_spares P Q own spares r h =
        let one = spares r (h.0, λ p. h.1 (inr p)) in
        (one.0, λ o. either o one.1)
      where
        either : OwnOr own Q r → (Q r → ⊥) → ⊥
        either (inl is) no' = h.1 (inl is)
        either (inr q) no' = no' q

    own_or : (Q : ℕ → Type 0) (own : List ℕ) → ((r : ℕ) → is_among own r ≡ true → f r ≡ r) → (r : ℕ) → OwnOr own (With Q) r → OwnOr own Q (f r)
    own_or Q own kept r (inl is) = inl (subst (λ z. is_among own z ≡ true) (sym (kept r is)) is)
    own_or Q own kept r (inr q) = inr q

    shown_still : (P Q : ℕ → Type 0) → Spares P Q n → (entries : Entries) (r : ℕ) → Apart P n r → Shown (InstanceItem entries) r → Shown (InstanceItem (entries_with f entries)) r
    shown_still P Q spares entries r a s = subst (Shown (InstanceItem (entries_with f entries))) (spares r a).0 (shown_with f (InstanceItem entries) r s)

    mutual
      pub item_renamed : (P Q : ℕ → Type 0) → Spares P Q n → (item : Item) → ItemNames P n item → Each (With Q) (named_in_item item) → ItemNames Q n' (item_with f item)
      item_renamed P Q spares (FuncItem ty) h e = func_to Q ty e
      item_renamed P Q spares (InstanceItem entries) h e = all_renamed P Q spares entries h e
      item_renamed P Q spares (KindItem kind) h e = kind_renamed P Q spares kind h e

      pub kind_renamed : (P Q : ℕ → Type 0) → Spares P Q n → (kind : Kind) → KindNames P n kind → Each (With Q) (named_in_kind kind) → KindNames Q n' (kind_with f kind)
      kind_renamed P Q spares (ResourceKind r) h e = e.0
      kind_renamed P Q spares (ValueKind ty) h e = value_to Q ty e
      kind_renamed P Q spares (FuncKind ty) h e = func_to Q ty e
      kind_renamed P Q spares (InstanceKind own entries) h e =
          let kept : (r : ℕ) → is_among own r ≡ true → f r ≡ r = λ r is. (spares r (among_each (Apart P n) own r is h.0)).0 in
          let named : Each (With (OwnOr own Q)) (named_in entries) = each_then (OwnOr own (With Q)) (With (OwnOr own Q)) (own_or Q own kept) (named_in entries) (without_each (With Q) own (named_in entries) e) in
          subst (λ z. KindNames Q n' (InstanceKind z (entries_with f entries))) (sym (own_same (Apart P n) own (λ r a. (spares r a).0) h.0))
          (each_then (Apart P n) (Apart Q n') (apart_to P Q spares) own h.0, h.1, each_two (Apart P n) (Shown (InstanceItem entries)) (Shown (InstanceItem (entries_with f entries))) (shown_still P Q spares entries) own h.0 h.2, all_renamed (OwnOr own P) (OwnOr own Q) (inner_spares P Q own spares) entries h.3 named)

      pub all_renamed : (P Q : ℕ → Type 0) → Spares P Q n → (entries : Entries) → AllName P n entries → Each (With Q) (named_in entries) → AllName Q n' (entries_with f entries)
      all_renamed P Q spares End h e = tt
      all_renamed P Q spares (More name item rest) h e =
          (item_renamed P Q spares item h.0 (each_first (With Q) (named_in_item item) (named_in rest) e), all_renamed P Q spares rest h.1 (each_second (With Q) (named_in_item item) (named_in rest) e))

-- ---- new numbers for the resources that an instance type declares

pub numbered_apart : (own : List ℕ) (next r : ℕ) → is_among own r ≡ false → partner_in (numbered own next) r ≡ r
numbered_apart [] next r not' = refl
numbered_apart (o ∷ own) next r not' = go (nat_eq o r) refl not' (numbered_apart own (next + 1) r)
  where
    go : (b : Bool) → nat_eq o r ≡ b → (b || is_among own r) ≡ false → (is_among own r ≡ false → partner_in (numbered own (next + 1)) r ≡ r) → cond b next (partner_in (numbered own (next + 1)) r) ≡ r
    go true e is later = absurd (false≢true (sym is))
    go false e is later = later is

-- a new number is one of these
pub numbered_within : (own : List ℕ) (next r : ℕ) → is_among own r ≡ true → (next ≤ partner_in (numbered own next) r) × (partner_in (numbered own next) r < next + length own)
numbered_within [] next r is = absurd (false≢true is)
numbered_within (o ∷ own) next r is = go (nat_eq o r) is (numbered_within own (next + 1) r)
  where
    go : (b : Bool) → (b || is_among own r) ≡ true → (is_among own r ≡ true → (next + 1 ≤ partner_in (numbered own (next + 1)) r) × (partner_in (numbered own (next + 1)) r < next + 1 + length own))
        → (next ≤ cond b next (partner_in (numbered own (next + 1)) r)) × (cond b next (partner_in (numbered own (next + 1)) r) < next + length (o ∷ own))
    go true is' later = (omega arith, omega arith)
    go false is' later = let one = later is' in (let lo : next + 1 ≤ partner_in (numbered own (next + 1)) r = one.0 in omega (arith, lo), let hi : partner_in (numbered own (next + 1)) r < next + 1 + length own = one.1 in omega (arith, hi))

-- where no two are one, each new number is the partner of one of them
pub numbered_each : (P : ℕ → Type 0) (own : List ℕ) (next : ℕ) → Differ own → Each (λ r. P (partner_in (numbered own next) r)) own → Each P (new_numbers (numbered own next))
numbered_each P [] next differ h = tt
numbered_each P (o ∷ own) next differ h = (here (nat_eq o o) refl h.0, numbered_each P own (next + 1) differ.1 (others own differ.0 h.1))
  where
    here : (b : Bool) → nat_eq o o ≡ b → P (cond b next (partner_in (numbered own (next + 1)) o)) → P next
    here true e p = p
    here false e p = absurd (eqb-false o o e refl)

    other : (b : Bool) (r : ℕ) → b ≡ false → P (cond b next (partner_in (numbered own (next + 1)) r)) → P (partner_in (numbered own (next + 1)) r)
    other true r e p = absurd (false≢true (sym e))
    other false r e p = p

    apart : (r : ℕ) (rs : List ℕ) → is_among (r ∷ rs) o ≡ false → (nat_eq o r ≡ false) × (is_among rs o ≡ false)
    apart r rs e = go (nat_eq r o) refl (nat_eq o r) refl e
      where
        go : (b : Bool) → nat_eq r o ≡ b → (c : Bool) → nat_eq o r ≡ c → (b || is_among rs o) ≡ false → (c ≡ false) × (is_among rs o ≡ false)
        go true x c y e' = absurd (false≢true (sym e'))
        go false x true y e' = absurd (eqb-false r o x (sym (eqb-true o r y)))
        go false x false y e' = (refl, e')

    others : (rs : List ℕ) → is_among rs o ≡ false → Each (λ r. P (partner_in (numbered (o ∷ own) next) r)) rs → Each (λ r. P (partner_in (numbered own (next + 1)) r)) rs
    others [] e k = tt
    others (r ∷ rs) e k = let a = apart r rs e in (other (nat_eq o r) r a.0 k.0, others rs a.1 k.1)
