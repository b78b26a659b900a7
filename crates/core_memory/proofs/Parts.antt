-- Lists of which a part is replaced.
use Rattle.std.proofs.Common.{◌≡◌, ℕ, ◌+◌, ◌-◌, ◌≤◌, List, [], ◌++◌, length, take, drop, ap, sym, ◌∙◌, arith, add-zero, length-append, length-drop, length-take-le, append_assoc}
use Rattle.std.proofs.lemmas.List.{take-append-drop, take-take, take_at, drop_at, drop-append-le, drop-drop, drop-take, length-take, take-append-le}
use Rattle.std.proofs.Math.Seq.{take-append-add, drop-append-add}
use Rattle.core_memory.specs.Replaced.{replaced}

-- a list us its front, a part, and the rest
pub length_replaced : {X : Type 0} (xs : List X) (at : ℕ) (ys : List X) → at + length ys ≤ length xs → length (replaced xs at ys) ≡ length xs
length_replaced xs at ys le = simp (length-append, length-drop, length-take) (omega arith)

pub replaced_none : {X : Type 0} (xs : List X) (at : ℕ) → replaced xs at [] ≡ xs
replaced_none xs at = rw (add-zero) (take-append-drop at xs)

-- the front, and the replaced part
pub take_replaced : {X : Type 0} (xs : List X) (at : ℕ) (ys : List X) → at ≤ length xs → take (at + length ys) (replaced xs at ys) ≡ take at xs ++ ys
take_replaced xs at ys le =
    let e : length (take at xs ++ ys) ≡ at + length ys = simp (length-append, length-take) (omega arith) in
    rw (← append_assoc) (take_at (take at xs ++ ys) (drop (at + length ys) xs) (at + length ys) e)

pub drop_replaced : {X : Type 0} (xs : List X) (at : ℕ) (ys : List X) → at ≤ length xs → drop (at + length ys) (replaced xs at ys) ≡ drop (at + length ys) xs
drop_replaced xs at ys le =
    let e : length (take at xs ++ ys) ≡ at + length ys = simp (length-append, length-take) (omega arith) in
    rw (← append_assoc) (drop_at (take at xs ++ ys) (drop (at + length ys) xs) (at + length ys) e)

-- one part after another is both at once
pub replaced_more : {X : Type 0} (xs : List X) (at : ℕ) (ys zs : List X) → at ≤ length xs → replaced (replaced xs at ys) (at + length ys) zs ≡ replaced xs at (ys ++ zs)
replaced_more xs at ys zs le =
    let front = take_replaced xs at ys le in
    let back = drop_replaced xs at ys le in
    let rest : drop (at + length ys + length zs) (replaced xs at ys) ≡ drop (at + length (ys ++ zs)) xs =
    sym (drop-drop (length zs) (at + length ys) (replaced xs at ys)) ∙ ap (drop (length zs)) back ∙ drop-drop (length zs) (at + length ys) xs ∙ ap (λ n. drop n xs) (omega (arith, length-append ys zs)) in
    ap (λ a. a ++ (zs ++ drop (at + length ys + length zs) (replaced xs at ys))) front ∙ ap (λ a. (take at xs ++ ys) ++ (zs ++ a)) rest ∙ simp append_assoc

-- one part before another is both at once
pub replaced_before : {X : Type 0} (xs : List X) (at k : ℕ) (ys zs : List X) → k ≡ at + length ys → k ≤ length xs → replaced (replaced xs k zs) at ys ≡ replaced xs at (ys ++ zs)
replaced_before xs at k ys zs e le =
    let len : length (take k xs) ≡ k = length-take-le k xs le in
    let front : take at (replaced xs k zs) ≡ take at xs = take-append-le at (take k xs) (zs ++ drop (k + length zs) xs) (omega arith) ∙ take-take at k xs (omega arith) in
    let back : drop (at + length ys) (replaced xs k zs) ≡ zs ++ drop (k + length zs) xs = drop_at (take k xs) (zs ++ drop (k + length zs) xs) (at + length ys) (omega arith) in
    let n : k + length zs ≡ at + length (ys ++ zs) = omega (arith, length-append ys zs) in
    ap (λ a. a ++ (ys ++ drop (at + length ys) (replaced xs k zs))) front ∙ ap (λ a. take at xs ++ (ys ++ a)) back ∙ ap (λ m. take at xs ++ (ys ++ (zs ++ drop m xs))) n ∙ simp append_assoc

-- what lies above the part, and what lies below it
pub above_replaced : {X : Type 0} (xs : List X) (at : ℕ) (ys : List X) (from : ℕ) → at ≤ length xs → at + length ys ≤ from → drop from (replaced xs at ys) ≡ drop from xs
above_replaced xs at ys from le lf =
    let k = from - (at + length ys) in
    let e : at + length ys + k ≡ from = omega arith in
    ap (λ n. drop n (replaced xs at ys)) (sym e) ∙ sym (drop-drop k (at + length ys) (replaced xs at ys)) ∙ ap (drop k) (drop_replaced xs at ys le) ∙ drop-drop k (at + length ys) xs ∙ ap (λ n. drop n xs) e

pub below_replaced : {X : Type 0} (xs : List X) (at : ℕ) (ys : List X) (from n : ℕ) → at ≤ length xs → from + n ≤ at → take n (drop from (replaced xs at ys)) ≡ take n (drop from xs)
below_replaced xs at ys from n le lf =
    let len : length (take at xs) ≡ at = length-take-le at xs le in
    let e : from + (at - from) ≡ at = omega arith in
    let inner : drop from (take at xs) ≡ take (at - from) (drop from xs) = ap (λ m. drop from (take m xs)) (sym e) ∙ drop-take from (at - from) xs in
    let len2 : length (drop from (take at xs)) ≡ at - from = length-drop from (take at xs) ∙ ap (λ m. m - from) len in
    ap (take n) (drop-append-le from (take at xs) (ys ++ drop (at + length ys) xs) (omega arith))
    ∙ take-append-le n (drop from (take at xs)) (ys ++ drop (at + length ys) xs) (omega arith)
    ∙ ap (take n) inner ∙ take-take n (at - from) (drop from xs) (omega arith)

-- a part of the middle of three lists
pub take_middle : {X : Type 0} (us vs ws : List X) (a off n : ℕ) → length us ≡ a → off + n ≤ length vs → take n (drop (a + off) (us ++ (vs ++ ws))) ≡ take n (drop off vs)
take_middle us vs ws a off n e le =
    let d : drop (a + off) (us ++ (vs ++ ws)) ≡ drop off vs ++ ws =
    ap (λ m. drop (m + off) (us ++ (vs ++ ws))) (sym e) ∙ drop-append-add us (vs ++ ws) off ∙ drop-append-le off vs ws (omega arith) in
    ap (take n) d ∙ take-append-le n (drop off vs) ws (omega (arith, length-drop off vs))

pub replaced_middle : {X : Type 0} (us vs ws : List X) (a off : ℕ) (xs : List X) → length us ≡ a → off + length xs ≤ length vs → replaced (us ++ (vs ++ ws)) (a + off) xs ≡ us ++ (replaced vs off xs ++ ws)
replaced_middle us vs ws a off xs e le =
    let front : take (a + off) (us ++ (vs ++ ws)) ≡ us ++ take off vs =
    ap (λ m. take (m + off) (us ++ (vs ++ ws))) (sym e) ∙ take-append-add us (vs ++ ws) off ∙ ap (λ b. us ++ b) (take-append-le off vs ws (omega arith)) in
    let back : drop (a + off + length xs) (us ++ (vs ++ ws)) ≡ drop (off + length xs) vs ++ ws =
    ap (λ m. drop m (us ++ (vs ++ ws))) (omega arith) ∙ drop-append-add us (vs ++ ws) (off + length xs) ∙ drop-append-le (off + length xs) vs ws le in
    ap (λ f. f ++ (xs ++ drop (a + off + length xs) (us ++ (vs ++ ws)))) front ∙ ap (λ b. (us ++ take off vs) ++ (xs ++ b)) back ∙ simp append_assoc
