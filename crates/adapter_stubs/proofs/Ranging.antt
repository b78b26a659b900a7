-- Lists that are made number by number.
use Rattle.std.proofs.Common.{◌≡◌, ℕ, suc, ◌+◌, ◌-◌, ◌<◌, List, [], ◌∷◌, ◌++◌, sym, ap, ◌∙◌, arith, append_assoc}
use Rattle.wasm_ast.specs.declared.instr.Instr.{Instr}
use Rattle.adapter_code.specs.declared.statement.Width.{Width}
use Rattle.adapter_compile.specs.Instructions.{get}
use Rattle.adapter_stubs.specs.Stub.{gets}
use Rattle.adapter_stubs.specs.Widths.{width_at, further}

-- one item more, of those from i on, of which that many are left
pub further_more : (i n : ℕ) (xs ys all : List Width) → i < n → ys ≡ xs ++ width_at i ∷ [] → xs ++ further i (n - i) ≡ all → ys ++ further (i + 1) (n - (i + 1)) ≡ all
further_more i n xs ys all lt more so_far =
    let left : n - i ≡ suc (n - (i + 1)) = omega (arith, lt) in
    let next : i + 1 ≡ suc i = omega arith in
    ap (λ l. l ++ further (i + 1) (n - (i + 1))) more ∙ append_assoc xs (width_at i ∷ []) (further (i + 1) (n - (i + 1)))
    ∙ ap (λ k. xs ++ width_at i ∷ further k (n - (i + 1))) next ∙ ap (λ k. xs ++ further i k) (sym left) ∙ so_far

pub gets_more : (from i n : ℕ) (xs ys all : List Instr) → i < n → ys ≡ xs ++ get (from + i) ∷ [] → xs ++ gets (from + i) (n - i) ≡ all → ys ++ gets (from + (i + 1)) (n - (i + 1)) ≡ all
gets_more from i n xs ys all lt more so_far =
    let left : n - i ≡ suc (n - (i + 1)) = omega (arith, lt) in
    let next : from + (i + 1) ≡ suc (from + i) = omega arith in
    ap (λ l. l ++ gets (from + (i + 1)) (n - (i + 1))) more ∙ append_assoc xs (get (from + i) ∷ []) (gets (from + (i + 1)) (n - (i + 1)))
    ∙ ap (λ k. xs ++ get (from + i) ∷ gets k (n - (i + 1))) next ∙ ap (λ k. xs ++ gets (from + i) k) (sym left) ∙ so_far
