-- The next file of a listing.
use Rattle.std.proofs.Common.{◌≡◌, ℕ, suc, ◌+◌, ◌<◌, ◌≤◌, Bool, true, false, not, List, ◌∷◌, length, drop, Option, Some, None, nat_lt, refl, ap, ◌∙◌, arith}
use Rattle.std.specs.Prelude.{is_some, option_map, position}
use Rattle.std.specs.List.{prefix_len}
use Rattle.std.proofs.lemmas.List.{drop_more, drop_all}
use Rattle.std.proofs.lemmas.Bool.Decides.{nat_tests}
use Rattle.tree_table.specs.Scratches.{ScratchMap, file_at}
use Rattle.reference_step.specs.Nodes.{next_file, next_by}

position_skip : {A : Type 0} (p : A → Bool) (x : A) (xs : List A) → p x ≡ false → position p (x ∷ xs) ≡ option_map suc (position p xs)
position_skip p x xs is = by (nat_lt (prefix_len (λ y. not (p y)) xs) (length xs)) refl
  where
    by : (b : Bool) → nat_lt (prefix_len (λ y. not (p y)) xs) (length xs) ≡ b → position p (x ∷ xs) ≡ option_map suc (position p xs)
    by true less = grind (arith, nat_tests, is, less)
    by false most = grind (arith, nat_tests, is, most)

position_here : {A : Type 0} (p : A → Bool) (x : A) (xs : List A) → p x ≡ true → position p (x ∷ xs) ≡ Some 0
position_here p x xs is = grind (arith, nat_tests, is)

later : (m : ScratchMap) (from : ℕ) (o : Option ℕ) → next_by m from (option_map suc o) ≡ next_by m (from + 1) o
later m from None = refl
later m from (Some n) = let same : from + suc n ≡ from + 1 + n = omega arith in ap Some same

module _ (m : ScratchMap) (n : ℕ) where
  left : (w : n < length m.files) → drop n m.files ≡ file_at m n ∷ drop (n + 1) m.files
  left w = drop_more m.files n None w

  pub skip_file : n < length m.files → is_some (file_at m n) ≡ false → next_file m n ≡ next_file m (n + 1)
  skip_file w none = ap (λ fs. next_by m n (position is_some fs)) (left w) ∙ ap (next_by m n) (position_skip is_some (file_at m n) (drop (n + 1) m.files) none) ∙ later m n (position is_some (drop (n + 1) m.files))

  pub this_file : n < length m.files → is_some (file_at m n) ≡ true → next_file m n ≡ Some n
  this_file w some = ap (λ fs. next_by m n (position is_some fs)) (left w) ∙ ap (next_by m n) (position_here is_some (file_at m n) (drop (n + 1) m.files) some) ∙ ap Some (omega arith)

  pub no_file : length m.files ≤ n → next_file m n ≡ None
  no_file past = ap (λ fs. next_by m n (position is_some fs)) (drop_all n m.files past)

pub ruleset next = (skip_file, this_file, no_file)
