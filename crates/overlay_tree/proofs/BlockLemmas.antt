-- Blocks in an order, of which some change places, or bytes of one are replaced or read.
use Rattle.std.proofs.Common.{◌≡◌, ℕ, zero, suc, ◌+◌, ◌*◌, ◌-◌, ◌≤◌, ◌<◌, refl, sym, ap, ◌∙◌, List, [], ◌∷◌, ◌++◌, length, take, drop, get_or, false, true, ◌⊎◌, inl, inr, All, arith}
use Rattle.std.specs.Prelude.{◌==◌, ◌/◌, ◌%◌, if◌then◌else◌, replicate}
use Rattle.std.specs.List.{splice}
use Rattle.std.proofs.lemmas.List.{append_assoc, length-append, length-take-le, length-drop, length-replicate, drop-drop, take-take, drop-take, take-append-drop, take_all, take_at, drop_at, take-append-le, drop-append-le, take-replicate, drop-replicate, replicate-append-replicate}
use Rattle.std.proofs.lemmas.List.Elements.{All-nil, All-head, All-tail, All-take, All-drop, All-append, All-push, All-weaker}
use Rattle.overlay_tree.specs.Blocks.{block, in_order, times, IsSpace, exchanged}
use Rattle.overlay_tree.proofs.SpliceLemmas.{front, seam, splice_front, splice_behind, later_alike}
use Rattle.overlay_tree.proofs.ReplaceLemmas.{splice_part}

-- ---- lengths

block_long : (bytes : List ℕ) (n k : ℕ) → length bytes ≡ n * 4096 → k < n → length (block bytes k) ≡ 4096
block_long bytes n k h lt = length-take-le 4096 (drop (k * 4096) bytes) (omega (arith, length-drop (k * 4096) bytes, h, lt))

order_long : (order bytes : List ℕ) (n : ℕ) → length bytes ≡ n * 4096 → All (λ k. k < n) order → length (in_order order bytes) ≡ length order * 4096
order_long [] bytes n h inside = refl
order_long (k ∷ order) bytes n h inside =
    omega (arith, length-append (block bytes k) (in_order order bytes), block_long bytes n k h (All-head (λ j. j < n) k order inside), order_long order bytes n h (All-tail (λ j. j < n) k order inside))

pub space_long : (order bytes : List ℕ) → IsSpace order bytes → length (in_order order bytes) ≡ length order * 4096
space_long order bytes space = order_long order bytes (length order) space.whole space.inside

-- ---- blocks that change places

order_append : (xs ys bytes : List ℕ) → in_order (xs ++ ys) bytes ≡ in_order xs bytes ++ in_order ys bytes
order_append [] ys bytes = refl
order_append (x ∷ xs) ys bytes = ap (λ r. block bytes x ++ r) (order_append xs ys bytes) ∙ sym (append_assoc (block bytes x) (in_order xs bytes) (in_order ys bytes))

order_four : (p q r s bytes : List ℕ) → in_order (p ++ (q ++ (r ++ s))) bytes ≡ in_order p bytes ++ (in_order q bytes ++ (in_order r bytes ++ in_order s bytes))
order_four p q r s bytes =
    order_append p (q ++ (r ++ s)) bytes ∙ ap (λ x. in_order p bytes ++ x) (order_append q (r ++ s) bytes ∙ ap (λ x. in_order q bytes ++ x) (order_append r s bytes))

-- a list in four parts
split : (xs : List ℕ) (a m e : ℕ) → a ≤ m → m ≤ e → xs ≡ take a xs ++ (take (m - a) (drop a xs) ++ (take (e - m) (drop m xs) ++ drop e xs))
split xs a m e h k =
    let last : take (e - m) (drop m xs) ++ drop e xs ≡ drop m xs = ap (λ i. take (e - m) (drop m xs) ++ drop i xs) (omega (arith, k)) ∙ ap (λ r. take (e - m) (drop m xs) ++ r) (sym (drop-drop (e - m) m xs)) ∙ take-append-drop (e - m) (drop m xs) in
    let middle : take (m - a) (drop a xs) ++ drop m xs ≡ drop a xs = ap (λ i. take (m - a) (drop a xs) ++ drop i xs) (omega (arith, h)) ∙ ap (λ r. take (m - a) (drop a xs) ++ r) (sym (drop-drop (m - a) a xs)) ∙ take-append-drop (m - a) (drop a xs) in
    sym (ap (λ r. take a xs ++ r) (ap (λ r. take (m - a) (drop a xs) ++ r) last ∙ middle) ∙ take-append-drop a xs)

exchanged_four : (p q r s : List ℕ) (a m e : ℕ) → length p ≡ a → a + length q ≡ m → m + length r ≡ e → exchanged (p ++ (q ++ (r ++ s))) a m e ≡ p ++ (r ++ (q ++ s))
exchanged_four p q r s a m e is_a is_m is_e =
    let all = p ++ (q ++ (r ++ s)) in
    let front : take a all ≡ p = take_at p (q ++ (r ++ s)) a is_a in
    let from_a : drop a all ≡ q ++ (r ++ s) = drop_at p (q ++ (r ++ s)) a is_a in
    let from_m : drop m all ≡ r ++ s = ap (λ k. drop k all) (sym is_m) ∙ sym (drop-drop (length q) a all) ∙ ap (drop (length q)) from_a ∙ drop_at q (r ++ s) (length q) refl in
    let from_e : drop e all ≡ s = ap (λ k. drop k all) (sym is_e) ∙ sym (drop-drop (length r) m all) ∙ ap (drop (length r)) from_m ∙ drop_at r s (length r) refl in
    let second : take (m - a) (drop a all) ≡ q = ap (take (m - a)) from_a ∙ take_at q (r ++ s) (m - a) (omega (arith, is_m)) in
    let third : take (e - m) (drop m all) ≡ r = ap (take (e - m)) from_m ∙ take_at r s (e - m) (omega (arith, is_e)) in
    ap (λ x. x ++ (take (e - m) (drop m all) ++ (take (m - a) (drop a all) ++ drop e all))) front ∙ ap (λ x. p ++ (x ++ (take (m - a) (drop a all) ++ drop e all))) third ∙ ap (λ x. p ++ (r ++ (x ++ drop e all))) second ∙ ap (λ x. p ++ (r ++ (q ++ x))) from_e

-- what a rotation of a part leaves
pub turned : (xs : List ℕ) (a m e : ℕ) → a ≤ m → m ≤ e → take a xs ++ ((drop (m - a) (take (e - a) (drop a xs)) ++ take (m - a) (take (e - a) (drop a xs))) ++ drop (e - a) (drop a xs)) ≡ exchanged xs a m e
turned xs a m e h k =
    let first : take (m - a) (take (e - a) (drop a xs)) ≡ take (m - a) (drop a xs) = take-take (m - a) (e - a) (drop a xs) (omega (arith, h, k)) in
    let second : drop (m - a) (take (e - a) (drop a xs)) ≡ take (e - m) (drop m xs) =
    ap (λ i. drop (m - a) (take i (drop a xs))) (omega (arith, h, k)) ∙ drop-take (m - a) (e - m) (drop a xs) ∙ ap (take (e - m)) (drop-drop (m - a) a xs ∙ ap (λ i. drop i xs) (omega (arith, h))) in
    let last : drop (e - a) (drop a xs) ≡ drop e xs = drop-drop (e - a) a xs ∙ ap (λ i. drop i xs) (omega (arith, h, k)) in
    ap (λ x. take a xs ++ ((x ++ take (m - a) (take (e - a) (drop a xs))) ++ drop (e - a) (drop a xs))) second ∙ ap (λ x. take a xs ++ ((take (e - m) (drop m xs) ++ x) ++ drop (e - a) (drop a xs))) first
    ∙ ap (λ x. take a xs ++ ((take (e - m) (drop m xs) ++ take (m - a) (drop a xs)) ++ x)) last ∙ ap (λ x. take a xs ++ x) (append_assoc (take (e - m) (drop m xs)) (take (m - a) (drop a xs)) (drop e xs))

pub length_exchanged : (xs : List ℕ) (a m e : ℕ) → a ≤ m → m ≤ e → e ≤ length xs → length (exchanged xs a m e) ≡ length xs
length_exchanged xs a m e h k l =
    let p = take a xs in
    let q = take (m - a) (drop a xs) in
    let r = take (e - m) (drop m xs) in
    let s = drop e xs in
    omega (arith, length-append p (r ++ (q ++ s)), length-append r (q ++ s), length-append q s, length-take-le a xs (omega (arith, h, k, l)), length-take-le (m - a) (drop a xs) (omega (arith, length-drop a xs, h, k, l)), length-take-le (e - m) (drop m xs) (omega (arith, length-drop m xs, h, k, l)), length-drop e xs, h, k, l)

in_exchanged : (order bytes : List ℕ) (n a m e : ℕ) → length bytes ≡ n * 4096 → All (λ k. k < n) order → a ≤ m → m ≤ e → e ≤ length order
    → in_order (exchanged order a m e) bytes ≡ exchanged (in_order order bytes) (a * 4096) (m * 4096) (e * 4096)
in_exchanged order bytes n a m e whole inside h k l =
    let p = take a order in
    let q = take (m - a) (drop a order) in
    let r = take (e - m) (drop m order) in
    let s = drop e order in
    let within = λ (j : ℕ). j < n in
    let long_p : length (in_order p bytes) ≡ length p * 4096 = order_long p bytes n whole (All-take within a order inside) in
    let long_q : length (in_order q bytes) ≡ length q * 4096 = order_long q bytes n whole (All-take within (m - a) (drop a order) (All-drop within a order inside)) in
    let long_r : length (in_order r bytes) ≡ length r * 4096 = order_long r bytes n whole (All-take within (e - m) (drop m order) (All-drop within m order inside)) in
    let is_p : length p ≡ a = length-take-le a order (omega (arith, h, k, l)) in
    let is_q : length q ≡ m - a = length-take-le (m - a) (drop a order) (omega (arith, length-drop a order, h, k, l)) in
    let is_r : length r ≡ e - m = length-take-le (e - m) (drop m order) (omega (arith, length-drop m order, h, k, l)) in
    let all : in_order order bytes ≡ in_order p bytes ++ (in_order q bytes ++ (in_order r bytes ++ in_order s bytes)) = ap (λ o. in_order o bytes) (split order a m e h k) ∙ order_four p q r s bytes in
    order_four p r q s bytes
    ∙ sym (ap (λ x. exchanged x (a * 4096) (m * 4096) (e * 4096)) all
    ∙ exchanged_four (in_order p bytes) (in_order q bytes) (in_order r bytes) (in_order s bytes) (a * 4096) (m * 4096) (e * 4096) (omega (arith, long_p, is_p)) (omega (arith, long_q, is_q, h)) (omega (arith, long_r, is_r, k)))

times_append : (k : ℕ) (xs ys : List ℕ) → times k (xs ++ ys) ≡ times k xs + times k ys
times_append k [] ys = omega arith
times_append k (x ∷ xs) ys = omega (arith, times_append k xs ys)

times_four : (k : ℕ) (p q r s : List ℕ) → times k (p ++ (q ++ (r ++ s))) ≡ times k p + (times k q + (times k r + times k s))
times_four k p q r s = omega (arith, times_append k p (q ++ (r ++ s)), times_append k q (r ++ s), times_append k r s)

times_exchanged : (k : ℕ) (order : List ℕ) (a m e : ℕ) → a ≤ m → m ≤ e → times k (exchanged order a m e) ≡ times k order
times_exchanged k order a m e h l =
    let p = take a order in
    let q = take (m - a) (drop a order) in
    let r = take (e - m) (drop m order) in
    let s = drop e order in
    omega (arith, times_four k p r q s, times_four k p q r s, ap (times k) (split order a m e h l))

pub space_exchanged : (order bytes : List ℕ) (a m e : ℕ) → IsSpace order bytes → a ≤ m → m ≤ e → e ≤ length order → IsSpace (exchanged order a m e) bytes
space_exchanged order bytes a m e space h k l =
    let long = length_exchanged order a m e h k l in
    let within = λ (j : ℕ). j < length order in
    let front = All-take within a order space.inside in
    let later = All-take within (e - m) (drop m order) (All-drop within m order space.inside) in
    let sooner = All-take within (m - a) (drop a order) (All-drop within a order space.inside) in
    let last = All-drop within e order space.inside in
    record {
      whole = space.whole ∙ ap (λ n. n * 4096) (sym long);
      inside = All-weaker within (λ j. j < length (exchanged order a m e)) (λ j lt. omega (arith, lt, long)) (exchanged order a m e)
          (All-append within (take a order) _ front (All-append within (take (e - m) (drop m order)) _ later (All-append within (take (m - a) (drop a order)) _ sooner last)));
      once = λ j. omega (arith, times_exchanged j order a m e h k, space.once j);
      few = omega (arith, long, space.few);
    }

pub bytes_exchanged : (order bytes : List ℕ) (a m e : ℕ) → IsSpace order bytes → a ≤ m → m ≤ e → e ≤ length order → in_order (exchanged order a m e) bytes ≡ exchanged (in_order order bytes) (a * 4096) (m * 4096) (e * 4096)
bytes_exchanged order bytes a m e space h k l = in_exchanged order bytes (length order) a m e space.whole space.inside h k l

-- ---- bytes of one block

eq_same : (n : ℕ) → (n == n) ≡ true
eq_same n = grind arith

eq_less : (m n : ℕ) → m < n → (m == n) ≡ false
eq_less m n h = grind (arith, h)

eq_more : (m n : ℕ) → n < m → (m == n) ≡ false
eq_more m n h = grind (arith, h)

times_same : (k : ℕ) (order : List ℕ) → times k (k ∷ order) ≡ suc (times k order)
times_same k order = omega (arith, ap (λ t. (if t then 1 else 0) + times k order) (eq_same k))

present : (order : List ℕ) (q : ℕ) → q < length order → 1 ≤ times (get_or order q 0) order
present [] q lt = absurd (omega (arith, lt))
present (k ∷ order) zero lt = omega (arith, times_same k order)
present (j ∷ order) (suc q) lt = omega (arith, present order q (omega (arith, lt)))

compare : (m n : ℕ) → (m ≡ n) ⊎ ((m < n) ⊎ (n < m))
compare zero zero = inl refl
compare zero (suc n) = inr (inl (omega arith))
compare (suc m) zero = inr (inr (omega arith))
compare (suc m) (suc n) = elim (compare m n) [
  | inl e ↦ inl (ap suc e)
  | inr more ↦ elim more [ inl h ↦ inr (inl (omega (arith, h))) | inr h ↦ inr (inr (omega (arith, h))) ]
]

-- bytes that are replaced in a block
abbrev put : (bytes ys : List ℕ) (k r : ℕ) → List ℕ
put bytes ys k r = splice bytes (k * 4096 + r) (k * 4096 + r + length ys) ys

block_put : (bytes ys : List ℕ) (n k r : ℕ) → length bytes ≡ n * 4096 → k < n → r + length ys ≤ 4096 → block (put bytes ys k r) k ≡ splice (block bytes k) r (r + length ys) ys
block_put bytes ys n k r whole lt fits = splice_part bytes ys (k * 4096) 4096 r (r + length ys) (k * 4096 + r) (k * 4096 + r + length ys) refl (omega arith) refl fits (omega (arith, whole, lt))

block_less : (bytes ys : List ℕ) (n j k r : ℕ) → length bytes ≡ n * 4096 → k < n → r + length ys ≤ 4096 → j < k → block (put bytes ys k r) j ≡ block bytes j
block_less bytes ys n j k r whole lt fits h = later_alike (put bytes ys k r) bytes (j * 4096) 4096 (splice_front bytes ys (k * 4096 + r) (k * 4096 + r + length ys) (j * 4096 + 4096) (omega (arith, h)) (omega (arith, whole, lt, fits)))

block_more : (bytes ys : List ℕ) (n j k r : ℕ) → length bytes ≡ n * 4096 → k < n → r + length ys ≤ 4096 → k < j → block (put bytes ys k r) j ≡ block bytes j
block_more bytes ys n j k r whole lt fits h = ap (take 4096) (splice_behind bytes ys (k * 4096 + r) (k * 4096 + r + length ys) (j * 4096) (omega (arith, whole, lt, fits)) refl (omega (arith, h, fits)))

-- blocks of another number stay
absent : (order bytes ys : List ℕ) (n k r : ℕ) → length bytes ≡ n * 4096 → k < n → r + length ys ≤ 4096 → times k order ≡ 0 → in_order order (put bytes ys k r) ≡ in_order order bytes
absent [] bytes ys n k r whole lt fits none = refl
absent (j ∷ order) bytes ys n k r whole lt fits none =
    let rest = absent order bytes ys n k r whole lt fits (omega (arith, none)) in
    ap (λ b. b ++ in_order order (put bytes ys k r)) (other (compare j k)) ∙ ap (λ x. block bytes j ++ x) rest
  where
    other : (j ≡ k) ⊎ ((j < k) ⊎ (k < j)) → block (put bytes ys k r) j ≡ block bytes j
    other (inl e) = absurd (omega (arith, none, ap (λ i. times k (i ∷ order)) e, times_same k order))
    other (inr (inl h)) = block_less bytes ys n j k r whole lt fits h
    other (inr (inr h)) = block_more bytes ys n j k r whole lt fits h

splice_left : (xs zs ys : List ℕ) (i j : ℕ) → i ≤ length xs → j ≤ length xs → splice (xs ++ zs) i j ys ≡ splice xs i j ys ++ zs
splice_left xs zs ys i j h k =
    ap (λ x. x ++ (ys ++ drop j (xs ++ zs))) (take-append-le i xs zs h) ∙ ap (λ x. take i xs ++ (ys ++ x)) (drop-append-le j xs zs k)
    ∙ ap (λ x. take i xs ++ x) (sym (append_assoc ys (drop j xs) zs)) ∙ sym (append_assoc (take i xs) (ys ++ drop j xs) zs)

splice_right : (xs zs ys : List ℕ) (i j k l : ℕ) → k ≡ length xs + i → l ≡ length xs + j → splice (xs ++ zs) k l ys ≡ xs ++ splice zs i j ys
splice_right [] zs ys i j k l is_k is_l = ap (λ x. splice zs x l ys) (omega (arith, is_k)) ∙ ap (λ x. splice zs i x ys) (omega (arith, is_l))
splice_right (x ∷ xs) zs ys i j zero l is_k is_l = absurd (omega (arith, is_k))
splice_right (x ∷ xs) zs ys i j (suc k) zero is_k is_l = absurd (omega (arith, is_l))
splice_right (x ∷ xs) zs ys i j (suc k) (suc l) is_k is_l = ap (λ r. x ∷ r) (splice_right xs zs ys i j k l (omega (arith, is_k)) (omega (arith, is_l)))

in_put : (order bytes ys : List ℕ) (n q r i : ℕ) → length bytes ≡ n * 4096 → All (λ k. k < n) order → q < length order → times (get_or order q 0) order ≤ 1 → r + length ys ≤ 4096 → i ≡ q * 4096 + r
    → in_order order (put bytes ys (get_or order q 0) r) ≡ splice (in_order order bytes) i (i + length ys) ys
in_put [] bytes ys n q r i whole inside lt once fits is_i = absurd (omega (arith, lt))
in_put (k ∷ order) bytes ys n zero r i whole inside lt once fits is_i =
    let there = All-head (λ j. j < n) k order inside in
    let first = block_put bytes ys n k r whole there fits in
    let rest = absent order bytes ys n k r whole there fits (omega (arith, once, times_same k order)) in
    let long = block_long bytes n k whole there in
    let at : r ≡ i = omega (arith, is_i) in
    ap (λ b. b ++ in_order order (put bytes ys k r)) first ∙ ap (λ x. splice (block bytes k) r (r + length ys) ys ++ x) rest
    ∙ sym (splice_left (block bytes k) (in_order order bytes) ys r (r + length ys) (omega (arith, long, fits)) (omega (arith, long, fits))) ∙ ap (λ x. splice (block bytes k ++ in_order order bytes) x (x + length ys) ys) at
in_put (j ∷ order) bytes ys n (suc q) r i whole inside lt once fits is_i =
    let k = get_or order q 0 in
    let here : q < length order = omega (arith, lt) in
    let others = All-tail (λ x. x < n) j order inside in
    let there : k < n = others q 0 here in
    let some = present order q here in
    let rest = in_put order bytes ys n q r (q * 4096 + r) whole others here (omega (arith, once)) fits refl in
    let long = block_long bytes n j whole (All-head (λ x. x < n) j order inside) in
    ap (λ b. b ++ in_order order (put bytes ys k r)) (other k there some once (compare j k)) ∙ ap (λ x. block bytes j ++ x) rest
    ∙ sym (splice_right (block bytes j) (in_order order bytes) ys (q * 4096 + r) (q * 4096 + r + length ys) i (i + length ys) (omega (arith, is_i, long)) (omega (arith, is_i, long)))
  where
    other : (k : ℕ) → k < n → 1 ≤ times k order → times k (j ∷ order) ≤ 1 → (j ≡ k) ⊎ ((j < k) ⊎ (k < j)) → block (put bytes ys k r) j ≡ block bytes j
    other k there some once (inl e) = absurd (omega (arith, some, once, ap (λ x. times k (x ∷ order)) e, times_same k order))
    other k there some once (inr (inl h)) = block_less bytes ys n j k r whole there fits h
    other k there some once (inr (inr h)) = block_more bytes ys n j k r whole there fits h

length_splice : (xs ys : List ℕ) (i j : ℕ) → j ≡ i + length ys → j ≤ length xs → length (splice xs i j ys) ≡ length xs
length_splice xs ys i j e h =
    omega (arith, length-append (take i xs) (ys ++ drop j xs), length-append ys (drop j xs), length-take-le i xs (omega (arith, e, h)), length-drop j xs, e, h)

pub block_there : (order bytes : List ℕ) (q : ℕ) → IsSpace order bytes → q < length order → get_or order q 0 * 4096 + 4096 ≤ length bytes
block_there order bytes q space lt = let there : get_or order q 0 < length order = space.inside q 0 lt in omega (arith, there, space.whole)

-- as the code finds it: bytes of the block at a place
pub space_put : (order bytes new ys : List ℕ) (at from : ℕ) → IsSpace order bytes → at / 4096 < length order → at % 4096 + length ys ≤ 4096 → from ≡ get_or order (at / 4096) 0 * 4096 + at % 4096 → new ≡ splice bytes from (from + length ys) ys → IsSpace order new
space_put order bytes new ys at from space lt fits is_from is_new = record {
  whole = ap length is_new ∙ length_splice bytes ys from (from + length ys) refl (omega (arith, block_there order bytes (at / 4096) space lt, is_from, fits)) ∙ space.whole;
  inside = space.inside;
  once = space.once;
  few = space.few;
}

pub bytes_put : (order bytes new ys : List ℕ) (at from : ℕ) → IsSpace order bytes → at / 4096 < length order → at % 4096 + length ys ≤ 4096 → from ≡ get_or order (at / 4096) 0 * 4096 + at % 4096 → new ≡ splice bytes from (from + length ys) ys
    → in_order order new ≡ splice (in_order order bytes) at (at + length ys) ys
bytes_put order bytes new ys at from space lt fits is_from is_new =
    ap (in_order order) (is_new ∙ ap (λ x. splice bytes x (x + length ys) ys) is_from)
    ∙ in_put order bytes ys (length order) (at / 4096) (at % 4096) at space.whole space.inside lt (space.once (get_or order (at / 4096) 0)) fits (omega arith)

part_read : (order bytes : List ℕ) (n q r c i : ℕ) → length bytes ≡ n * 4096 → All (λ k. k < n) order → q < length order → r + c ≤ 4096 → i ≡ q * 4096 + r → take c (drop i (in_order order bytes)) ≡ take c (drop (get_or order q 0 * 4096 + r) bytes)
part_read [] bytes n q r c i whole inside lt fits is_i = absurd (omega (arith, lt))
part_read (k ∷ order) bytes n zero r c i whole inside lt fits is_i =
    let from = drop (k * 4096) bytes in
    let rest = in_order order bytes in
    let long = block_long bytes n k whole (All-head (λ j. j < n) k order inside) in
    let whole_block : 4096 ≡ r + (4096 - r) = omega (arith, fits) in
    ap (λ x. take c (drop x (block bytes k ++ rest))) (omega (arith, is_i)) ∙ ap (take c) (drop-append-le r (block bytes k) rest (omega (arith, long, fits)))
    ∙ take-append-le c (drop r (block bytes k)) rest (omega (arith, length-drop r (block bytes k), long, fits)) ∙ ap (λ x. take c (drop r (take x from))) whole_block
    ∙ ap (take c) (drop-take r (4096 - r) from) ∙ take-take c (4096 - r) (drop r from) (omega (arith, fits)) ∙ ap (take c) (drop-drop r (k * 4096) bytes)
part_read (j ∷ order) bytes n (suc q) r c i whole inside lt fits is_i =
    let rest = in_order order bytes in
    let long = block_long bytes n j whole (All-head (λ x. x < n) j order inside) in
    ap (λ x. take c (drop x (block bytes j ++ rest))) (omega (arith, is_i)) ∙ ap (take c) (sym (drop-drop (q * 4096 + r) 4096 (block bytes j ++ rest)) ∙ ap (drop (q * 4096 + r)) (drop_at (block bytes j) rest 4096 long))
    ∙ part_read order bytes n q r c (q * 4096 + r) whole (All-tail (λ x. x < n) j order inside) (omega (arith, lt)) fits refl

pub bytes_read : (order bytes out : List ℕ) (at from c : ℕ) → IsSpace order bytes → at / 4096 < length order → at % 4096 + c ≤ 4096 → from ≡ get_or order (at / 4096) 0 * 4096 + at % 4096 → out ≡ take c (drop from bytes) → out ≡ take c (drop at (in_order order bytes))
bytes_read order bytes out at from c space lt fits is_from is_out =
    is_out ∙ ap (λ x. take c (drop x bytes)) is_from ∙ sym (part_read order bytes (length order) (at / 4096) (at % 4096) c at space.whole space.inside lt fits (omega arith))

-- ---- parts of a list, one after another

pub splice_none : (xs : List ℕ) (at e : ℕ) → e ≡ at → xs ≡ splice xs at e []
splice_none xs at e is_e = sym (ap (λ x. take at xs ++ drop x xs) is_e ∙ take-append-drop at xs)

pub splice_more : (xs us vs ws : List ℕ) (at d e f : ℕ) → d ≡ length us → e ≡ at + d → f ≡ e + length vs → f ≤ length xs → ws ≡ us ++ vs → splice (splice xs at e us) e f vs ≡ splice xs at f ws
splice_more xs us vs ws at d e f is_d is_e is_f fits is_ws =
    let first = splice xs at e us in
    let front_long : length (take at xs ++ us) ≡ e = omega (arith, length-append (take at xs) us, length-take-le at xs (omega (arith, is_d, is_e, is_f, fits)), is_d, is_e) in
    let regrouped : first ≡ (take at xs ++ us) ++ drop e xs = sym (append_assoc (take at xs) us (drop e xs)) in
    let front : take e first ≡ take at xs ++ us = ap (take e) regrouped ∙ take_at (take at xs ++ us) (drop e xs) e front_long in
    let back : drop f first ≡ drop f xs = splice_behind xs us at e f (omega (arith, is_d, is_e, is_f, fits)) (omega (arith, is_d, is_e)) (omega (arith, is_f)) in
    ap (λ x. x ++ (vs ++ drop f first)) front ∙ ap (λ x. (take at xs ++ us) ++ (vs ++ x)) back ∙ append_assoc (take at xs) us (vs ++ drop f xs) ∙ ap (λ x. take at xs ++ x) (sym (append_assoc us vs (drop f xs)) ∙ ap (λ x. x ++ drop f xs) (sym is_ws))

pub take_two : (xs : List ℕ) (d c e : ℕ) → e ≡ d + c → take e xs ≡ take d xs ++ take c (drop d xs)
take_two xs d c e is_e = sym (ap (λ x. x ++ take c (drop d xs)) (sym (take-take d (d + c) xs (omega arith))) ∙ ap (λ x. take d (take (d + c) xs) ++ x) (sym (drop-take d c xs)) ∙ take-append-drop d (take (d + c) xs) ∙ ap (λ x. take x xs) (sym is_e))

part_long : (new : List ℕ) (done count : ℕ) → done + count ≤ length new → length (take done new) ≡ done
part_long new done count h = length-take-le done new (omega (arith, h))

-- one turn of a loop that replaces bytes, or sets them to zero
pub write_turn : (xs cur next new part : List ℕ) (at done count total : ℕ) → total ≡ done + count → total ≤ length new → part ≡ take (total - done) (drop done new) → at + length new ≤ length xs
    → cur ≡ splice xs at (at + done) (take done new) → next ≡ splice cur (at + done) (at + done + length part) part → next ≡ splice xs at (at + total) (take total new)
write_turn xs cur next new part at done count total is_total within is_part fits is_cur is_next =
    let first : done ≡ length (take done new) = sym (part_long new done count (omega (arith, is_total, within))) in
    let long : length part ≡ count = ap length is_part ∙ length-take-le (total - done) (drop done new) (omega (arith, length-drop done new, is_total, within)) ∙ omega (arith, is_total) in
    let joined : take total new ≡ take done new ++ part = take_two new done (total - done) total (omega (arith, is_total)) ∙ ap (λ x. take done new ++ x) (sym is_part) in
    is_next ∙ ap (λ x. splice x (at + done) (at + done + length part) part) is_cur
    ∙ splice_more xs (take done new) part (take total new) at done (at + done) (at + done + length part) first refl refl (omega (arith, long, is_total, within, fits)) joined
    ∙ ap (λ x. splice xs at x (take total new)) (omega (arith, long, is_total))

pub clear_turn : (xs cur next : List ℕ) (at done count total len : ℕ) → total ≡ done + count → total ≤ len → at + len ≤ length xs
    → cur ≡ splice xs at (at + done) (replicate done 0) → next ≡ splice cur (at + done) (at + done + count) (replicate count 0) → next ≡ splice xs at (at + total) (replicate total 0)
clear_turn xs cur next at done count total len is_total within fits is_cur is_next =
    let first : done ≡ length (replicate done 0) = sym (length-replicate {A = ℕ} done 0) in
    let long : length (replicate count 0) ≡ count = length-replicate {A = ℕ} count 0 in
    let joined : replicate total 0 ≡ replicate done 0 ++ replicate count 0 = ap (λ k. replicate k 0) is_total ∙ sym (replicate-append-replicate done count 0) in
    is_next ∙ ap (λ x. splice x (at + done) (at + done + count) (replicate count 0)) is_cur
    ∙ splice_more xs (replicate done 0) (replicate count 0) (replicate total 0) at done (at + done) (at + done + count) first refl (omega (arith, long)) (omega (arith, is_total, within, fits)) joined
    ∙ ap (λ x. splice xs at x (replicate total 0)) (omega (arith, is_total))

-- one turn of a loop that reads
pub read_turn : (xs out next part : List ℕ) (at done count total : ℕ) → total ≡ done + count → take done out ≡ take done (drop at xs) → part ≡ take count (drop (at + done) xs) → take total next ≡ take done out ++ part → take total next ≡ take total (drop at xs)
read_turn xs out next part at done count total is_total was is_part is_next =
    is_next ∙ ap (λ x. x ++ part) was ∙ ap (λ x. take done (drop at xs) ++ x) (is_part ∙ ap (take count) (sym (drop-drop done at xs))) ∙ sym (take_two (drop at xs) done count total is_total)

-- a part of a list that is replaced by as many
abbrev replaced : (a k : ℕ) (xs ys : List ℕ) → List ℕ
replaced a k xs ys = take a xs ++ (ys ++ drop k (drop a xs))

pub length_replaced : (a k : ℕ) (xs ys : List ℕ) → length ys ≡ k → a + k ≤ length xs → length (replaced a k xs ys) ≡ length xs
length_replaced a k xs ys long h =
    omega (arith, length-append (take a xs) (ys ++ drop k (drop a xs)), length-append ys (drop k (drop a xs)), length-take-le a xs (omega (arith, h)), length-drop k (drop a xs), length-drop a xs, long, h)

pub take_replaced : (a k n : ℕ) (xs ys : List ℕ) → n ≡ a + length ys → a ≤ length xs → take n (replaced a k xs ys) ≡ take a xs ++ ys
take_replaced a k n xs ys is_n h =
    ap (take n) (sym (append_assoc (take a xs) ys (drop k (drop a xs)))) ∙ take_at (take a xs ++ ys) (drop k (drop a xs)) n (omega (arith, length-append (take a xs) ys, length-take-le a xs h, is_n))

pub part_of : (xs : List ℕ) (done count total : ℕ) → total ≡ done + count → total ≤ length xs → length (take (total - done) (drop done xs)) ≡ count
part_of xs done count total is_total within = length-take-le (total - done) (drop done xs) (omega (arith, length-drop done xs, is_total, within)) ∙ omega (arith, is_total)

pub take_whole : (xs : List ℕ) (n : ℕ) → n ≡ length xs → take n xs ≡ xs
take_whole xs n e = take_all n xs (omega (arith, e))

-- ---- parts that changed places

pub exchanged_front : (xs : List ℕ) (a m e k : ℕ) → k ≤ a → a ≤ length xs → take k (exchanged xs a m e) ≡ take k xs
exchanged_front xs a m e k h l = front xs (take (e - m) (drop m xs) ++ (take (m - a) (drop a xs) ++ drop e xs)) a k h l

exchanged_first : (xs : List ℕ) (a m e : ℕ) → a ≤ m → m ≤ e → e ≤ length xs → take (e - m) (drop a (exchanged xs a m e)) ≡ take (e - m) (drop m xs)
exchanged_first xs a m e h k l =
    let long : length (take (e - m) (drop m xs)) ≡ e - m = length-take-le (e - m) (drop m xs) (omega (arith, length-drop m xs, l, k)) in
    ap (take (e - m)) (seam xs (take (e - m) (drop m xs) ++ (take (m - a) (drop a xs) ++ drop e xs)) a (omega (arith, h, k, l))) ∙ take_at (take (e - m) (drop m xs)) (take (m - a) (drop a xs) ++ drop e xs) (e - m) long

exchanged_second : (xs : List ℕ) (a m e i : ℕ) → a ≤ m → m ≤ e → e ≤ length xs → i ≡ a + (e - m) → take (m - a) (drop i (exchanged xs a m e)) ≡ take (m - a) (drop a xs)
exchanged_second xs a m e i h k l is_i =
    let all = exchanged xs a m e in
    let long : length (take (e - m) (drop m xs)) ≡ e - m = length-take-le (e - m) (drop m xs) (omega (arith, length-drop m xs, l, k)) in
    let short : length (take (m - a) (drop a xs)) ≡ m - a = length-take-le (m - a) (drop a xs) (omega (arith, length-drop a xs, l, k, h)) in
    let from : drop i all ≡ take (m - a) (drop a xs) ++ drop e xs =
    ap (λ x. drop x all) is_i ∙ sym (drop-drop (e - m) a all) ∙ ap (drop (e - m)) (seam xs (take (e - m) (drop m xs) ++ (take (m - a) (drop a xs) ++ drop e xs)) a (omega (arith, h, k, l))) ∙ drop_at (take (e - m) (drop m xs)) (take (m - a) (drop a xs) ++ drop e xs) (e - m) long in
    ap (take (m - a)) from ∙ take_at (take (m - a) (drop a xs)) (drop e xs) (m - a) short

-- a piece gets more blocks, which stood after all others
pub grown_rest : (xs ys : List ℕ) (first used held wanted : ℕ) → held < wanted → first + held ≤ used → (used + (wanted - held)) * 4096 ≤ length xs → ys ≡ exchanged xs ((first + held) * 4096) (used * 4096) ((used + (wanted - held)) * 4096)
    → take ((used - (first + held)) * 4096) (drop ((first + wanted) * 4096) ys) ≡ take ((used - (first + held)) * 4096) (drop ((first + held) * 4096) xs)
grown_rest xs ys first used held wanted more h fits is_ys =
    let a = (first + held) * 4096 in
    let m = used * 4096 in
    let e = (used + (wanted - held)) * 4096 in
    let count : (used - (first + held)) * 4096 ≡ m - a = omega (arith, h) in
    ap (λ x. take ((used - (first + held)) * 4096) (drop ((first + wanted) * 4096) x)) is_ys ∙ ap (λ x. take x (drop ((first + wanted) * 4096) (exchanged xs a m e))) count
    ∙ exchanged_second xs a m e ((first + wanted) * 4096) (omega (arith, h)) (omega arith) fits (omega (arith, more, h)) ∙ ap (λ x. take x (drop a xs)) (sym count)

-- a piece gives up blocks, which then stand after all others
pub cut_rest : (xs ys : List ℕ) (first used held wanted : ℕ) → wanted ≤ held → first + held ≤ used → used * 4096 ≤ length xs → ys ≡ exchanged xs ((first + wanted) * 4096) ((first + held) * 4096) (used * 4096)
    → take ((used - (first + held)) * 4096) (drop ((first + wanted) * 4096) ys) ≡ take ((used - (first + held)) * 4096) (drop ((first + held) * 4096) xs)
cut_rest xs ys first used held wanted less h fits is_ys =
    let a = (first + wanted) * 4096 in
    let m = (first + held) * 4096 in
    let e = used * 4096 in
    let count : (used - (first + held)) * 4096 ≡ e - m = omega (arith, h) in
    ap (λ x. take ((used - (first + held)) * 4096) (drop a x)) is_ys ∙ ap (λ x. take x (drop a (exchanged xs a m e))) count
    ∙ exchanged_first xs a m e (omega (arith, less)) (omega (arith, h)) fits ∙ ap (λ x. take x (drop m xs)) (sym count)

-- ---- new blocks

above : (order : List ℕ) (n : ℕ) → All (λ k. k < n) order → times n order ≡ 0
above [] n inside = refl
above (k ∷ order) n inside = omega (arith, ap (λ t. (if t then 1 else 0) + times n order) (eq_less k n (All-head (λ j. j < n) k order inside)), above order n (All-tail (λ j. j < n) k order inside))

pub once_more : (order : List ℕ) (n k : ℕ) → All (λ j. j < n) order → times k order ≤ 1 → times k (order ++ n ∷ []) ≤ 1
once_more order n k inside once = by_number (compare n k)
  where
    all : times k (order ++ n ∷ []) ≡ times k order + times k (n ∷ [])
    all = times_append k order (n ∷ [])

    by_number : (n ≡ k) ⊎ ((n < k) ⊎ (k < n)) → times k (order ++ n ∷ []) ≤ 1
    by_number (inl e) = omega (arith, all, ap (λ i. times i order) e, above order n inside, ap (λ i. times k (i ∷ [])) e, times_same k [])
    by_number (inr (inl h)) = omega (arith, all, once, ap (λ t. (if t then 1 else 0) + times k []) (eq_less n k h))
    by_number (inr (inr h)) = omega (arith, all, once, ap (λ t. (if t then 1 else 0) + times k []) (eq_more n k h))

pub inside_more : (order : List ℕ) (n m : ℕ) → m ≡ n + 1 → All (λ j. j < n) order → All (λ j. j < m) (order ++ n ∷ [])
inside_more order n m is_m inside = All-push (λ j. j < m) order n (All-weaker (λ j. j < n) (λ j. j < m) (λ j lt. omega (arith, lt, is_m)) order inside) (omega (arith, is_m))

pub order_of_zeros : (order : List ℕ) (n : ℕ) → All (λ k. k < n) order → in_order order (replicate (n * 4096) 0) ≡ replicate (length order * 4096) 0
order_of_zeros [] n inside = refl
order_of_zeros (k ∷ order) n inside =
    let lt : k < n = All-head (λ j. j < n) k order inside in
    let first : block (replicate (n * 4096) 0) k ≡ replicate 4096 0 = ap (take 4096) (drop-replicate (k * 4096) (n * 4096) 0) ∙ take-replicate 4096 (n * 4096 - k * 4096) 0 (omega (arith, lt)) in
    ap (λ b. b ++ in_order order (replicate (n * 4096) 0)) first ∙ ap (λ x. replicate 4096 0 ++ x) (order_of_zeros order n (All-tail (λ j. j < n) k order inside))
    ∙ replicate-append-replicate 4096 (length order * 4096) 0 ∙ ap (λ i. replicate i 0) (omega arith)

pub order_bytes : (order bytes : List ℕ) → All (λ b. b < 256) bytes → All (λ b. b < 256) (in_order order bytes)
order_bytes [] bytes are = All-nil (λ b. b < 256)
order_bytes (k ∷ order) bytes are = All-append (λ b. b < 256) (block bytes k) (in_order order bytes) (All-take (λ b. b < 256) 4096 (drop (k * 4096) bytes) (All-drop (λ b. b < 256) (k * 4096) bytes are)) (order_bytes order bytes are)
