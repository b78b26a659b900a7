-- Values from words, one after another.
use Rattle.std.proofs.Common.{◌≡◌, ℕ, zero, suc, ◌+◌, ◌<◌, ◌≤◌, List, [], ◌∷◌, ◌++◌, length, take, get_or, min, refl, ap, ◌∙◌, arith}
use Rattle.virt_base.specs.declared.core_type.CoreType.{CoreType}
use Rattle.core_store.specs.Words.{value_in, values_in}

pub values_none : (functions : ℕ) (ts : List CoreType) (ws : List ℕ) → values_in functions (take 0 ts) ws ≡ []
values_none functions ts ws = refl

values_suc : (functions : ℕ) (ts : List CoreType) (ws : List ℕ) (i : ℕ) (t : CoreType) → i < length ts → i < length ws → values_in functions (take (suc i) ts) ws ≡ values_in functions (take i ts) ws ++ value_in functions (get_or ts i t) (get_or ws i 0) ∷ []
values_suc functions [] ws i t lt lt' = absurd (omega arith)
values_suc functions (t ∷ ts) [] i d lt lt' = absurd (omega arith)
values_suc functions (t ∷ ts) (w ∷ ws) zero d lt lt' = refl
values_suc functions (t ∷ ts) (w ∷ ws) (suc i) d lt lt' = ap (λ vs. value_in functions t w ∷ vs) (values_suc functions ts ws i d (omega arith) (omega arith))

pub values_more : (functions : ℕ) (ts : List CoreType) (ws : List ℕ) (i : ℕ) (t : CoreType) → i < length ts → i < length ws → values_in functions (take (i + 1) ts) ws ≡ values_in functions (take i ts) ws ++ value_in functions (get_or ts i t) (get_or ws i 0) ∷ []
values_more functions ts ws i t lt lt' = let n : i + 1 ≡ suc i = omega arith in ap (λ k. values_in functions (take k ts) ws) n ∙ values_suc functions ts ws i t lt lt'

pub values_all : (functions n : ℕ) (ts : List CoreType) (ws : List ℕ) → min (length ts) (length ws) ≤ n → values_in functions (take n ts) ws ≡ values_in functions ts ws
values_all functions zero [] ws le = refl
values_all functions (suc n) [] ws le = refl
values_all functions zero (t ∷ ts) [] le = refl
values_all functions zero (t ∷ ts) (w ∷ ws) le = absurd (omega arith)
values_all functions (suc n) (t ∷ ts) [] le = refl
values_all functions (suc n) (t ∷ ts) (w ∷ ws) le = ap (λ vs. value_in functions t w ∷ vs) (values_all functions n ts ws (omega arith))
