-- Runs of numbers, and values one after the other.
use Rattle.std.proofs.Common.{◌≡◌, ℕ, pos, ◌+◌, ◌*◌, ◌/◌, ◌%◌, ◌^◌, ◌<◌, ◌≤◌, ap, refl, sym, ◌∙◌, List, [], ◌∷◌, ◌++◌, length, take, get_or, arith, suc, add-one, append_assoc}
use Rattle.std.proofs.Math.Seq.{take-suc}
use Rattle.std.specs.Prelude.{reverse}
use Rattle.std.proofs.lemmas.List.{length-reverse}
use Rattle.std.proofs.Math.Nat.{mul_comm}
use Rattle.core_memory.specs.Number.{bytes_of}
use Rattle.wit_types.specs.declared.value.Value.{Value}
use Rattle.wit_types.specs.PlainValue.{PlainValue, PlainValues, IntValue, plain_value, values_of, byte_values, More as Values, End as NoValues}
use Rattle.abi_layout.specs.Storing.{run_bytes, count_values}

pub count-values_of : (xs : List Value) → count_values (values_of xs) ≡ length xs
count-values_of [] = refl
count-values_of (x ∷ xs) = ap (λ k. k + 1) (count-values_of xs) ∙ add-one (length xs)

pub count-byte_values : (bs : List ℕ) → count_values (byte_values bs) ≡ length bs
count-byte_values [] = refl
count-byte_values (b ∷ bs) = ap (λ k. k + 1) (count-byte_values bs) ∙ add-one (length bs)

-- ---- the bytes of a number, one after another

pub push_more : (due xs ys : List ℕ) (m k n b : ℕ) → xs ++ bytes_of m n ≡ due → m ≡ k + 1 → b ≡ n % 256 → ys ≡ xs ++ b ∷ [] → ys ++ bytes_of k (n / 256) ≡ due
push_more due xs ys m k n b so is byte push =
    ap (λ (v : List ℕ). v ++ bytes_of k (n / 256)) (push ∙ ap (λ c. xs ++ c ∷ []) byte) ∙ append_assoc xs (n % 256 ∷ []) (bytes_of k (n / 256))
    ∙ ap (λ j. xs ++ bytes_of j n) (sym (is ∙ add-one k)) ∙ so

-- ---- bytes that are their own run

pub own_run : (bs : List ℕ) → ((k : ℕ) → get_or bs k 0 < 256) → run_bytes 1 (byte_values bs) ≡ bs
own_run [] small = refl
own_run (b ∷ bs) small =
    let here : b < 256 = small 0 in
    let low : b % 2 ^ 64 % 256 ≡ b = omega arith in
    let rest : run_bytes 1 (byte_values bs) ≡ bs = own_run bs (λ k. small (suc k)) in
    ap (λ k. k ∷ run_bytes 1 (byte_values bs)) low ∙ ap (λ (z : List ℕ). b ∷ z) rest

-- ---- integers that are bytes

-- one value more at the end
snoc : PlainValues → PlainValue → PlainValues
snoc NoValues v = Values v NoValues
snoc (Values x xs) v = Values x (snoc xs v)

snoc-values_of : (xs : List Value) (x : Value) → values_of (xs ++ x ∷ []) ≡ snoc (values_of xs) (plain_value x)
unfolding snoc
snoc-values_of [] x = refl
snoc-values_of (y ∷ xs) x = ap (Values (plain_value y)) (snoc-values_of xs x)

snoc-byte_values : (bs : List ℕ) (b : ℕ) → byte_values (bs ++ b ∷ []) ≡ snoc (byte_values bs) (IntValue (pos b))
unfolding snoc
snoc-byte_values [] b = refl
snoc-byte_values (y ∷ bs) b = ap (Values (IntValue (pos y))) (snoc-byte_values bs b)

pub integers_more : (xs ys : List Value) (bs : List ℕ) (i b : ℕ) (x : Value) → values_of xs ≡ byte_values (take i bs) → i < length bs → b ≡ get_or bs i 0 → plain_value x ≡ IntValue (pos b) → ys ≡ xs ++ x ∷ [] →
    values_of ys ≡ byte_values (take (i + 1) bs)
integers_more xs ys bs i b x so lt here is push =
    let cut : take (i + 1) bs ≡ take i bs ++ b ∷ [] = ap (λ j. take j bs) (add-one i) ∙ take-suc bs i 0 lt ∙ ap (λ c. take i bs ++ c ∷ []) (sym here) in
    ap values_of push ∙ snoc-values_of xs x ∙ ap (λ v. snoc (values_of xs) v) is ∙ ap (λ v. snoc v (IntValue (pos b))) so ∙ sym (snoc-byte_values (take i bs) b) ∙ ap byte_values (sym cut)

-- ---- values of which the last one stands first

pub width_fits : (items : List Value) (vs : PlainValues) (place width size : ℕ) → values_of (reverse items) ≡ vs → width ≡ size → place < 4294967296 → count_values vs * size < 4294967296 → place + width * length items ≤ 2 ^ 34
width_fits items vs place width size is wide near few =
    let same : count_values vs ≡ length items = ap count_values (sym is) ∙ count-values_of (reverse items) ∙ length-reverse items in
    let turned : width * length items ≡ count_values vs * size = ap (λ k. width * k) (sym same) ∙ ap (λ k. k * count_values vs) wide ∙ mul_comm size (count_values vs) in
    omega arith
