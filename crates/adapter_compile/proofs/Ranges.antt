-- Numbers stay within their widths.
use Rattle.std.proofs.Common.{◌≡◌, ℕ, zero, suc, ◌+◌, ◌*◌, ◌<◌, ◌≤◌, ◌^◌, ◌%◌, ◌/◌, List, [], ◌∷◌, Some, None, Bool, true, false, length, refl, subst, arith, inl, inr, All, take, drop, lit<, mod-lt, pow-suc, length-take}
use Rattle.std.proofs.Math.Nat.{div-le_self}
use Rattle.std.proofs.lemmas.Nat.{or_lt, xor_lt}
use Rattle.std.proofs.lemmas.List.Elements.{All-nil, All-cons, All-head, All-tail, All-append, All-take, All-drop}
use Rattle.std.specs.Int.{from_bool}
use Rattle.std.specs.Int.Bits.{and_lt}
use Rattle.std.specs.Prelude.{not, nat_lt, nat_le, ◌==◌, if◌then◌else◌}
use Rattle.core_memory.specs.Number.{number, bytes_of}
use Rattle.adapter_code.specs.declared.statement.Width.{Width}
use Rattle.adapter_code.specs.declared.statement.Width.TheVariants.{Narrow, Broad}
use Rattle.adapter_code.specs.declared.statement.IntOp.{IntOp}
use Rattle.adapter_code.specs.declared.statement.IntOp.TheVariants.{Eq, Ne, LtU, LeU, Add, Sub, Mul, And, Or, Xor, Shl, ShrU}
use Rattle.adapter_code.specs.Number.{low, result_of, given_by, moved, word, put, loaded, stored}
use Rattle.adapter_code.specs.WellFormed.{IsSize}

bool_fits : (b : Bool) → from_bool b < 2 ^ 32
bool_fits true = lit< tt
bool_fits false = lit< tt

pub low_fits : (v : ℕ) → low Narrow v < 2 ^ 32
low_fits v = mod-lt v (lit< tt)

shifted_fits : (x y : ℕ) → x < 2 ^ 32 → result_of ShrU Narrow x y < 2 ^ 32
shifted_fits x y h = let le : result_of ShrU Narrow x y ≤ x = div-le_self x (2 ^ (y % 32)) in omega (arith, le, h)

pub result_fits : (op : IntOp) (w : Width) (x y : ℕ) → (w ≡ Narrow → x < 2 ^ 32) → (w ≡ Narrow → y < 2 ^ 32) → given_by op w ≡ Narrow → result_of op w x y < 2 ^ 32
result_fits Eq w x y hx hy e = bool_fits (x == y)
result_fits Ne w x y hx hy e = bool_fits (not (x == y))
result_fits LtU w x y hx hy e = bool_fits (nat_lt x y)
result_fits LeU w x y hx hy e = bool_fits (nat_le x y)
result_fits Add Narrow x y hx hy e = mod-lt (x + y) (lit< tt)
result_fits Sub Narrow x y hx hy e = mod-lt _ (lit< tt)
result_fits Mul Narrow x y hx hy e = mod-lt (x * y) (lit< tt)
result_fits And Narrow x y hx hy e = and_lt 32 x y (hx refl) (hy refl)
result_fits Or Narrow x y hx hy e = or_lt 32 x y (hx refl) (hy refl)
result_fits Xor Narrow x y hx hy e = xor_lt 32 x y (hx refl) (hy refl)
result_fits Shl Narrow x y hx hy e = mod-lt _ (lit< tt)
result_fits ShrU Narrow x y hx hy e = shifted_fits x y (hx refl)
result_fits Add Broad x y hx hy e = cc
result_fits Sub Broad x y hx hy e = cc
result_fits Mul Broad x y hx hy e = cc
result_fits And Broad x y hx hy e = cc
result_fits Or Broad x y hx hy e = cc
result_fits Xor Broad x y hx hy e = cc
result_fits Shl Broad x y hx hy e = cc
result_fits ShrU Broad x y hx hy e = cc

pub moved_fits : (to from : Width) (v : ℕ) → (from ≡ Narrow → v < 2 ^ 32) → to ≡ Narrow → moved to from v < 2 ^ 32
moved_fits Narrow Narrow v h e = h refl
moved_fits Narrow Broad v h e = low_fits v
moved_fits Broad Narrow v h e = cc
moved_fits Broad Broad v h e = cc

pow_above : (k : ℕ) → 0 < 256 ^ k
pow_above zero = lit< tt
pow_above (suc k) = let e : 256 ^ suc k ≡ 256 ^ k * 256 = pow-suc 256 k in let h = pow_above k in omega (arith, e, h)

-- four bytes are fewer than 2 ^ 32
number_fits : (k : ℕ) (bs : List ℕ) → length bs ≤ k → All (λ b. b < 256) bs → number bs < 256 ^ k
number_fits k [] le all = pow_above k
number_fits zero (b ∷ bs) le all = absurd (omega arith)
number_fits (suc k) (b ∷ bs) le all =
    let here : b < 256 = All-head (λ b. b < 256) b bs all in
    let there : number bs < 256 ^ k = number_fits k bs (omega arith) (All-tail (λ b. b < 256) b bs all) in
    let e : 256 ^ suc k ≡ 256 ^ k * 256 = pow-suc 256 k in
    omega (arith, here, there, e)

word_fits : (m : List ℕ) (at size : ℕ) → size ≤ 4 → All (λ b. b < 256) m → word m at size < 2 ^ 32
unfolding word
word_fits m at size le all =
    number_fits 4 (take size (drop at m)) (omega (arith, le, length-take size (drop at m))) (All-take (λ b. b < 256) size (drop at m) (All-drop (λ b. b < 256) at m all))

pub loaded_fits : (m : List ℕ) (at size v : ℕ) → size ≤ 4 → All (λ b. b < 256) m → loaded m at size ≡ Some v → v < 2 ^ 32
loaded_fits m at size v le all e = by_test (nat_le (at + size) (length m)) e
  where
    by_test : (b : Bool) → (if b then Some (word m at size) else None) ≡ Some v → v < 2 ^ 32
    by_test true f = let same : word m at size ≡ v = cc in omega (arith, word_fits m at size le all, same)
    by_test false f = cc

bytes_fit : (k v : ℕ) → All (λ b. b < 256) (bytes_of k v)
bytes_fit zero v = All-nil (λ b. b < 256)
bytes_fit (suc k) v = All-cons (λ b. b < 256) (v % 256) (bytes_of k (v / 256)) (mod-lt v (lit< tt)) (bytes_fit k (v / 256))

put_fits : (m : List ℕ) (at size v : ℕ) → All (λ b. b < 256) m → All (λ b. b < 256) (put m at size v)
unfolding put
put_fits m at size v all =
    All-append (λ b. b < 256) _ _ (All-take (λ b. b < 256) at m all) (All-append (λ b. b < 256) _ _ (bytes_fit size v) (All-drop (λ b. b < 256) (at + size) m all))

pub stored_fits : (m m' : List ℕ) (at size v : ℕ) → All (λ b. b < 256) m → stored m at size v ≡ Some m' → All (λ b. b < 256) m'
stored_fits m m' at size v all e = by_test (nat_le (at + size) (length m)) e
  where
    by_test : (b : Bool) → (if b then Some (put m at size v) else None) ≡ Some m' → All (λ b. b < 256) m'
    by_test true f = let same : put m at size v ≡ m' = cc in subst (λ (x : List ℕ). All (λ b. b < 256) x) same (put_fits m at size v all)
    by_test false f = cc

pub small_size : (w : Width) (size : ℕ) → IsSize w size → w ≡ Narrow → size ≤ 4
small_size Narrow size (inl e) n = omega (arith, e)
small_size Narrow size (inr (inl e)) n = omega (arith, e)
small_size Narrow size (inr (inr e)) n = omega (arith, e)
small_size Broad size h n = cc
