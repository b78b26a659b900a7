-- The parts of a name, as the code finds them.
use Rattle.std.proofs.Common.{◌≡◌, ℕ, suc, ◌+◌, ◌<◌, ◌∷◌, [], List, Bool, true, false, Option, Some, None, length, take, drop, refl, sym, ap, ◌∙◌, arith}
use Rattle.std.specs.Prelude.{◌==◌, MatchOption}
use Rattle.std.specs.Borrow.{Bor}
use Rattle.std.specs.List.{position_or_len, before_first, after_first}
use Rattle.wit_types.specs.Plain.{Name}
use Rattle.reference_step.specs.Listed.{cut, in_front}

abbrev pub is_at : ℕ → Bool
is_at b = b == 64

abbrev Split : Name → Type 0
Split name = cut name ≡ (before_first is_at name, after_first is_at name)

abbrev Whole : Name → Type 0
Whole name = cut name ≡ (name, [])

module _ (b : ℕ) (text : Name) where
  abbrev pos : ℕ
  pos = position_or_len is_at text

  one_more : suc pos ≡ 1 + pos
  one_more = omega arith

  two_more : suc (pos + 1) ≡ 1 + pos + 1
  two_more = omega arith

  split_here : (b == 64) ≡ true → Split (b ∷ text)
  split_here is = rw is refl

  split_behind : (b == 64) ≡ false → Split text → Split (b ∷ text)
  split_behind is deeper =
      let longer : (b ∷ take pos text, drop (pos + 1) text) ≡ (take (1 + pos) (b ∷ text), drop (1 + pos + 1) (b ∷ text)) =
      ap (λ n. (take n (b ∷ text), drop (suc (pos + 1)) (b ∷ text))) one_more ∙ ap (λ n. (take (1 + pos) (b ∷ text), drop n (b ∷ text))) two_more in
      rw is (ap (in_front b) deeper ∙ longer)

  whole_behind : (b == 64) ≡ false → Whole text → Whole (b ∷ text)
  whole_behind is deeper = rw is (ap (in_front b) deeper)

  less_behind : (b == 64) ≡ false → position_or_len is_at (b ∷ text) < length (b ∷ text) → pos < length text
  less_behind is less = let h = rw is at less in omega (arith, h)

  all_behind : (b == 64) ≡ false → position_or_len is_at (b ∷ text) ≡ length (b ∷ text) → pos ≡ length text
  all_behind is all = let h = rw is at all in omega (arith, h)

  not_all : (b == 64) ≡ true → position_or_len is_at (b ∷ text) ≡ length (b ∷ text) → ⊥
  not_all is all = let h = rw is at all in omega (arith, h)

  split_by : (t : Bool) → (b == 64) ≡ t → position_or_len is_at (b ∷ text) < length (b ∷ text) → (pos < length text → Split text) → Split (b ∷ text)
  split_by true is less deeper = split_here is
  split_by false is less deeper = split_behind is (deeper (less_behind is less))

  whole_by : (t : Bool) → (b == 64) ≡ t → position_or_len is_at (b ∷ text) ≡ length (b ∷ text) → (pos ≡ length text → Whole text) → Whole (b ∷ text)
  whole_by true is all deeper = absurd (not_all is all)
  whole_by false is all deeper = whole_behind is (deeper (all_behind is all))

-- of a name with `@`
cut_there : (name : Name) → position_or_len is_at name < length name → Split name
cut_there [] less = absurd (omega arith)
cut_there (b ∷ text) less = split_by b text (b == 64) refl less (λ l. cut_there text l)

-- of one without
cut_none : (name : Name) → position_or_len is_at name ≡ length name → Whole name
cut_none [] all = refl
cut_none (b ∷ text) all = whole_by b text (b == 64) refl all (λ l. cut_none text l)

abbrev Parts : Name → Option (Bor (List ℕ) × Bor (List ℕ)) → Type 0
Parts name r = MatchOption r (position_or_len (λ b. b == 64) name ≡ length name)
    (λ x. (x.0.now ≡ before_first (λ b. b == 64) name) × (x.1.now ≡ after_first (λ b. b == 64) name) × (position_or_len (λ b. b == 64) name < length name))

pub some_parts : (name : Name) (r : Option (Bor (List ℕ) × Bor (List ℕ))) (p : Bor (List ℕ) × Bor (List ℕ)) → Parts name r → r ≡ Some p → (p.0.now, p.1.now) ≡ cut name
some_parts name r p parts is =
    let h = rw is at parts in
    ap (λ a. (a, p.1.now)) h.0 ∙ ap (λ b. (before_first is_at name, b)) h.1 ∙ sym (cut_there name h.2)

pub no_parts : (name : Name) (r : Option (Bor (List ℕ) × Bor (List ℕ))) → Parts name r → r ≡ None → (name, []) ≡ cut name
no_parts name r parts is = let h = rw is at parts in sym (cut_none name h)
