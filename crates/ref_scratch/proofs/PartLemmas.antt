-- The parts of a text, one by one.
use Rattle.std.proofs.Common.{◌≡◌, ℕ, ◌+◌, ◌<◌, ◌≤◌, List, [], ◌∷◌, Bool, true, false, length, take, drop, Option, Some, None, refl, ap, sym, ◌∙◌, add-one, arith}
use Rattle.std.specs.Prelude.{◌==◌, MatchOption, IfNone, IfSome}
use Rattle.std.specs.Borrow.{Bor}
use Rattle.std.specs.List.{position_or_len, before_first, after_first}
use Rattle.std.proofs.lemmas.List.{length-drop}
use Rattle.tree_table.specs.Paths.{parts_of}
use Rattle.tree_table.proofs.PartLemmas.{parts-first, parts-all}

abbrev is_slash : ℕ → Bool
is_slash b = b == 47

parts_split : (text : List ℕ) → position_or_len is_slash text < length text → parts_of text ≡ before_first is_slash text ∷ parts_of (after_first is_slash text)
parts_split text h =
    let at = position_or_len is_slash text in
    parts-first text at refl h ∙ ap (λ n. take at text ∷ parts_of (drop n text)) (sym (add-one at))

parts_whole : (text : List ℕ) → length text ≤ position_or_len is_slash text → parts_of text ≡ text ∷ []
parts_whole text h = parts-all text h

abbrev pub Cut : List ℕ → Option (Bor (List ℕ) × Bor (List ℕ)) → Type 0
Cut text r = MatchOption r (position_or_len (λ b. b == 47) text ≡ length text)
    (λ x. (x.0.now ≡ before_first (λ b. b == 47) text) × (x.1.now ≡ after_first (λ b. b == 47) text) × (position_or_len (λ b. b == 47) text < length text))

pub last_is : (text : List ℕ) (r : Option (Bor (List ℕ) × Bor (List ℕ))) → Cut text r → IfNone r (parts_of text ≡ text ∷ [])
last_is text None h = parts_whole text (omega (arith, h))
last_is text (Some p) h = search

pub more_is : (text : List ℕ) (r : Option (Bor (List ℕ) × Bor (List ℕ))) → Cut text r → IfSome r (λ p. parts_of text ≡ p.0.now ∷ parts_of p.1.now)
more_is text None h = search
more_is text (Some p) h = parts_split text h.2 ∙ ap (λ a. a ∷ parts_of (after_first is_slash text)) (sym h.0) ∙ ap (λ b. p.0.now ∷ parts_of b) (sym h.1)

pub shorter_is : (text : List ℕ) (r : Option (Bor (List ℕ) × Bor (List ℕ))) → Cut text r → IfSome r (λ p. length p.1.now < length text)
shorter_is text None h = search
shorter_is text (Some p) h = omega (arith, ap length h.1, length-drop (position_or_len is_slash text + 1) text, h.2)

-- there is always a first part
pub some_part : (text : List ℕ) → (first : List ℕ) × (rest : List (List ℕ)) × (parts_of text ≡ first ∷ rest)
some_part [] = ([], [], refl)
some_part (b ∷ text) = by (b == 47) refl (some_part text)
  where
    by : (t : Bool) → (b == 47) ≡ t → (first : List ℕ) × (rest : List (List ℕ)) × (parts_of text ≡ first ∷ rest) → (first : List ℕ) × (rest : List (List ℕ)) × (parts_of (b ∷ text) ≡ first ∷ rest)
    by true is deeper = ([], parts_of text, rw is refl)
    by false is deeper = (b ∷ deeper.0, deeper.1, rw (is, deeper.2) refl)
