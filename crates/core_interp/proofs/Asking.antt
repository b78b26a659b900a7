-- Asking for a call of the embedder.
use Rattle.std.proofs.Common.{◌≡◌, ℕ, suc, ◌+◌, ◌-◌, ◌≤◌, List, ◌∷◌, ◌++◌, length, take, drop, refl, ap, ◌∙◌, arith}
use Rattle.std.specs.Prelude.{reverse, replicate}
use Rattle.std.proofs.lemmas.List.{take_rest, length-reverse}
use Rattle.core_slots.specs.Stacked.{Stacked, with_operands}
use Rattle.core_slots.proofs.WordLaws.{rest_first}

pub zeros_none : (a : Stacked) → a ≡ with_operands a (replicate 0 0 ++ a.operands)
zeros_none a = refl

one_more : (n : ℕ) (xs : List ℕ) → 0 ∷ (replicate n 0 ++ xs) ≡ replicate (n + 1) 0 ++ xs
one_more n xs = let e : suc n ≡ n + 1 = omega arith in ap (λ k. replicate k 0 ++ xs) e

pub zeros_more : (a b c : Stacked) (n : ℕ) → b ≡ with_operands a (replicate n 0 ++ a.operands) → c ≡ with_operands b (0 ∷ b.operands) → c ≡ with_operands a (replicate (n + 1) 0 ++ a.operands)
zeros_more a b c n e f = f ∙ ap (λ (x : Stacked). with_operands x (0 ∷ x.operands)) e ∙ ap (with_operands a) (one_more n a.operands)

-- the topmost operands, as the last of the list
pub topmost : (xs ys : List ℕ) (k from : ℕ) → ys ≡ reverse xs → from ≡ length ys - k → k ≤ length xs → take (length ys - from) (drop from ys) ≡ reverse (take k xs)
topmost xs ys k from e f le =
    let n : length (reverse xs) ≡ length xs = length-reverse xs in
    let m : length ys ≡ length xs = ap length e ∙ n in
    let at : from ≡ length xs - k = omega arith in
    take_rest ys from ∙ ap (drop from) e ∙ ap (λ j. drop j (reverse xs)) at ∙ rest_first xs k le
