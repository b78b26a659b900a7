-- Own handles by the lists of a type's parts, and kinds by their numbers.
use Rattle.std.proofs.Common.{◌≡◌, ◌≤◌, ◌<◌, ◌+◌, ◌==◌, ℕ, suc, Bool, true, false, ◌||◌, refl, sym, ap, ◌∙◌, Option, Some, None, List, [], ◌∷◌, map, min, drop, get_or, nat_le, ◌&&◌, ◌≢◌, slice_set, length, arith}
use Rattle.std.proofs.Math.ListN.{drop_of_length-le}
use Rattle.std.proofs.Math.Seq.{drop-cons}
use Rattle.std.specs.List.{list_all}
use Rattle.std.proofs.lemmas.Bool.Decides.{nat_tests}
use Rattle.std.proofs.lemmas.List.{length-set, get_or-set_same, get_or-set_other, get_or-map, ext_get_or}
use Rattle.std.proofs.lemmas.List.FromFn.{get_or-range_with_len}
use Rattle.wit_types.specs.Plain.{Name, Plain, Parts, End, bare, case_part}
use Rattle.policy_data.specs.declared.policy.Policy.{Policy}
use Rattle.reference_step.specs.Handles.{Live, live_of_kind}
use Rattle.reference_step.specs.Rules.{owns_in, owns_of, same_kind, kinds, fit}
use Rattle.ref_guards.specs.Owned.{each_at_most, owned_at_most}

pub owns-bare : (kind : ℕ) (labels : List Name) → owns_in kind (bare labels) ≡ 0
owns-bare kind [] = refl
owns-bare kind (l ∷ labels) = owns-bare kind labels

pub owns-case_part : (kind : ℕ) (name : Name) (p : Option Plain) (rest : Parts) → owns_in kind (case_part name p rest) ≡ owns_in kind (case_part [] p End) + owns_in kind rest
owns-case_part kind name None rest = omega arith
owns-case_part kind name (Some ty) rest = omega arith

pub owns-two : (kind : ℕ) (p q : Option Plain) → owns_in kind (case_part [] p (case_part [] q End)) ≡ owns_in kind (case_part [] p End) + owns_in kind (case_part [] q End)
owns-two kind p q = owns-case_part kind [] p (case_part [] q End)

-- whether a kind has room
fits_is : (owned live slots room : ℕ) → room + live ≡ slots → room < 4294967295 → (owned == 0 || nat_le (owned + live) slots) ≡ nat_le (min owned 4294967295) room
fits_is owned live slots room is few = grind (arith, nat_tests)

-- ---- each kind

from_zero : (k : ℕ) → 0 + k ≡ k
from_zero k = omega arith

kind_at : (k : ℕ) → k < 14 → get_or kinds k 0 ≡ k
kind_at k lt = get_or-range_with_len 0 14 k 0 lt ∙ from_zero k

owned_at : (g : ℕ → ℕ) (k d : ℕ) → k < 14 → get_or (map g kinds) k d ≡ g k
owned_at g k d lt = get_or-map g kinds k 0 d lt ∙ ap g (kind_at k lt)

abbrev has_room : Policy → Live → Option Plain → ℕ → Bool
has_room p live ty kind = owns_of kind ty == 0 || fit p live kind (owns_of kind ty)

one_kind : (p : Policy) (live : Live) (ty : Option Plain) (owned : List ℕ) (k room d : ℕ) → k < 14 → room + live_of_kind k live ≡ p.slots → room < 4294967295 → owned ≡ map (owned_at_most ty) kinds → has_room p live ty k ≡ nat_le (get_or owned k d) room
one_kind p live ty owned k room d lt is few all =
    let at : get_or owned k d ≡ owned_at_most ty k = ap (λ os. get_or os k d) all ∙ owned_at (owned_at_most ty) k d lt in
    fits_is (owns_of k ty) (live_of_kind k live) p.slots room is few ∙ ap (λ n. nat_le n room) (sym at)

pub next_kind : (p : Policy) (live : Live) (ty : Option Plain) (owned : List ℕ) (k room d : ℕ) → k < 14 → room + live_of_kind k live ≡ p.slots → room < 4294967295 → owned ≡ map (owned_at_most ty) kinds
    → list_all (has_room p live ty) (drop k kinds) ≡ (nat_le (get_or owned k d) room && list_all (has_room p live ty) (drop (k + 1) kinds))
next_kind p live ty owned k room d lt is few all =
    ap (list_all (has_room p live ty)) (drop-cons kinds k 0 (omega (arith, lt)) ∙ ap (λ m. get_or kinds k 0 ∷ drop m kinds) one_more)
    ∙ ap (λ j. has_room p live ty j && list_all (has_room p live ty) (drop (k + 1) kinds)) (kind_at k lt)
    ∙ ap (λ b. b && list_all (has_room p live ty) (drop (k + 1) kinds)) (one_kind p live ty owned k room d lt is few all)
  where
    one_more : suc k ≡ k + 1
    one_more = omega arith

pub no_more_kinds : (test : ℕ → Bool) (k : ℕ) → 14 ≤ k → list_all test (drop k kinds) ≡ true
no_more_kinds test k past = ap (list_all test) (drop_of_length-le kinds past)

pub too_many : (a b : ℕ) → b < a → nat_le a b ≡ false
too_many a b more = grind (arith, nat_tests)

pub few_enough : (a b : ℕ) → a ≤ b → nat_le a b ≡ true
few_enough a b least = grind (arith, nat_tests)

-- ---- what is noted of a type

same_from : (f g : ℕ → ℕ) (xs : List ℕ) → ((k : ℕ) → f k ≡ g k) → map f xs ≡ map g xs
same_from f g [] each = refl
same_from f g (x ∷ xs) each = rw (each x, same_from f g xs each) refl

-- as many of each kind
pub as_many : (f g : ℕ → ℕ) → ((k : ℕ) → f k ≡ g k) → each_at_most f ≡ each_at_most g
as_many f g each = same_from (λ k. min (f k) 4294967295) (λ k. min (g k) 4294967295) kinds (λ k. ap (λ n. min n 4294967295) (each k))

-- Some of all handles were noted beside those before, and the rest is still to come.
abbrev pub Noted : List ℕ → List ℕ → (ℕ → ℕ) → (ℕ → ℕ) → Type 0
Noted old new all rest = (many : ℕ → ℕ) → old ≡ each_at_most many → (noted : ℕ → ℕ) × (new ≡ each_at_most noted) × ((kind : ℕ) → noted kind + rest kind ≡ many kind + all kind)

pub noted_next : (old now new : List ℕ) (all here rest later : ℕ → ℕ) → Noted old now all rest → ((kind : ℕ) → rest kind ≡ here kind + later kind) → ((many : ℕ → ℕ) → now ≡ each_at_most many → new ≡ each_at_most (λ kind. many kind + here kind)) → Noted old new all later
noted_next old now new all here rest later before first step = λ many is.
    let noted = before many is in
    (λ kind. noted.0 kind + here kind, step noted.0 noted.1, λ kind. omega (arith, noted.2 kind, first kind))

-- ---- one more of a kind

more_here : (n k kind new : ℕ) → k ≡ kind → new ≡ min (min n 4294967295 + 1) 4294967295 → new ≡ min (n + same_kind k kind) 4294967295
more_here n k kind new is more = grind (arith, nat_tests)

no_more : (n k kind : ℕ) → k ≢ kind → n ≡ n + same_kind k kind
no_more n k kind other = grind (arith, nat_tests)

module _ (many : ℕ → ℕ) (kind : ℕ) (owned : List ℕ) (new : ℕ) (lt : kind < 14) (is : owned ≡ each_at_most many) (more : new ≡ min (min (many kind) 4294967295 + 1) 4294967295) where
  abbrev with_one : ℕ → ℕ
  with_one k = many k + same_kind k kind

  at_kind : (b : Bool) (k : ℕ) → (k == kind) ≡ b → k < 14 → get_or (slice_set owned kind new) k 0 ≡ min (with_one k) 4294967295
  at_kind true k same below =
      let here : k ≡ kind = grind (arith, nat_tests) in
      ap (λ j. get_or (slice_set owned kind new) j 0) here ∙ get_or-set_same owned kind new 0 (omega (arith, lt, ap length is))
      ∙ more_here (many k) k kind new here (more ∙ ap (λ j. min (min (many j) 4294967295 + 1) 4294967295) (sym here))
  at_kind false k differ below =
      let other : k ≢ kind = grind (arith, nat_tests) in
      get_or-set_other owned kind k new 0 other ∙ ap (λ ns. get_or ns k 0) is ∙ owned_at (λ j. min (many j) 4294967295) k 0 below
      ∙ ap (λ n. min n 4294967295) (no_more (many k) k kind other)

  set_one : slice_set owned kind new ≡ each_at_most with_one
  set_one =
      let long = length-set owned kind new ∙ ap length is in
      ext_get_or 0 (slice_set owned kind new) (each_at_most with_one) long (λ k few.
      let below : k < 14 = omega (arith, few, long) in
      at_kind (k == kind) k refl below ∙ sym (owned_at (λ j. min (with_one j) 4294967295) k 0 below))

-- one more of a kind is noted
pub one_noted : (many : ℕ → ℕ) (kind : ℕ) (owned : List ℕ) (new d : ℕ) → kind < 14 → owned ≡ each_at_most many → new ≡ min (get_or owned kind d + 1) 4294967295 → slice_set owned kind new ≡ each_at_most (λ other. many other + same_kind other kind)
one_noted many kind owned new d lt is more = set_one many kind owned new lt is (more ∙ ap (λ n. min (n + 1) 4294967295) (ap (λ ns. get_or ns kind d) is ∙ owned_at (λ j. min (many j) 4294967295) kind d lt))

pub ruleset room_rules = (owns-bare, owns-case_part, owns-two)
