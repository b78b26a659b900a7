-- The first part of a text.
use Rattle.std.proofs.Common.{◌≡◌, ℕ, zero, suc, ◌+◌, ◌<◌, ◌≤◌, Bool, true, false, not, cond, nat_eq, nat_lt, List, [], ◌∷◌, take, drop, length, Some, None, position, refl, ap, arith}
use Rattle.std.specs.List.{prefix_len}
use Rattle.std.proofs.lemmas.Bool.{ltb-true, ltb-false}
use Rattle.path_names.specs.Parts.{in_first}
use Rattle.tree_table.specs.Paths.{parts_of}

abbrev pub not_slash : ℕ → Bool
not_slash b = not (nat_eq b 47)

pub parts-all : (text : List ℕ) → length text ≤ prefix_len not_slash text → parts_of text ≡ text ∷ []
parts-all [] h = refl
parts-all (b ∷ text) h = by (nat_eq b 47) h (λ k. parts-all text k)
  where
    by : (is : Bool) → suc (length text) ≤ cond (not is) (1 + prefix_len not_slash text) 0 → (length text ≤ prefix_len not_slash text → parts_of text ≡ text ∷ []) → cond is ([] ∷ parts_of text) (in_first b (parts_of text)) ≡ (b ∷ text) ∷ []
    by true h deeper = absurd (omega arith)
    by false h deeper = ap (in_first b) (deeper (omega arith))

pub parts-first : (text : List ℕ) (n : ℕ) → prefix_len not_slash text ≡ n → n < length text → parts_of text ≡ take n text ∷ parts_of (drop (suc n) text)
parts-first [] n is h = absurd (omega arith)
parts-first (b ∷ text) n is h = by (nat_eq b 47) n is h (λ m e k. parts-first text m e k)
  where
    by : (t : Bool) (n : ℕ) → cond (not t) (1 + prefix_len not_slash text) 0 ≡ n → n < suc (length text) → ((m : ℕ) → prefix_len not_slash text ≡ m → m < length text → parts_of text ≡ take m text ∷ parts_of (drop (suc m) text)) → cond t ([] ∷ parts_of text) (in_first b (parts_of text)) ≡ take n (b ∷ text) ∷ parts_of (drop n text)
    by true zero is h deeper = refl
    by true (suc n) is h deeper = absurd (omega arith)
    by false zero is h deeper = absurd (omega arith)
    by false (suc n) is h deeper = ap (in_first b) (deeper n (omega arith) (omega arith))

pub position-none : (text : List ℕ) → position (λ b. nat_eq b 47) text ≡ None → length text ≤ prefix_len not_slash text
position-none text e = by (nat_lt (prefix_len not_slash text) (length text)) refl e
  where
    by : (t : Bool) → nat_lt (prefix_len not_slash text) (length text) ≡ t → cond t (Some (prefix_len not_slash text)) None ≡ None → length text ≤ prefix_len not_slash text
    by true is e = cc
    by false is e = ltb-false _ _ is

pub position-some : (text : List ℕ) (at : ℕ) → position (λ b. nat_eq b 47) text ≡ Some at → (prefix_len not_slash text ≡ at) × (at < length text)
position-some text at e = by (nat_lt (prefix_len not_slash text) (length text)) refl e
  where
    by : (t : Bool) → nat_lt (prefix_len not_slash text) (length text) ≡ t → cond t (Some (prefix_len not_slash text)) None ≡ Some at → (prefix_len not_slash text ≡ at) × (at < length text)
    by true is e =
        let same : prefix_len not_slash text ≡ at = cc in
        let less = ltb-true _ _ is in
        (same, omega arith)
    by false is e = cc
