-- Numbers in a memory: what is read after a write, and what a write leaves as it was.
use Rattle.std.proofs.Common.{◌≡◌, ◌⊎◌, ℕ, zero, suc, ◌+◌, ◌*◌, ◌/◌, ◌%◌, ◌^◌, ◌<◌, ◌≤◌, List, [], ◌∷◌, ◌++◌, length, take, drop, get_or, set, refl, sym, ap, ◌∙◌, inl, inr, arith, length-set, append_assoc, pow-suc}
use Rattle.std.proofs.lemmas.List.{get_or-set_same, get_or-set_other, take-append-drop}
use Rattle.core_memory.specs.Number.{number, bytes_of}
use Rattle.adapter_code.specs.Number.{word, put}
use Rattle.adapter_code.specs.Keeps.{Keeps}

-- ---- byte by byte

word_suc_list : (m : List ℕ) (at n : ℕ) → number (take (suc n) (drop at m)) ≡ get_or m at 0 + 256 * number (take n (drop (suc at) m))
word_suc_list [] zero zero = refl
word_suc_list [] zero (suc n) = refl
word_suc_list [] (suc at) zero = refl
word_suc_list [] (suc at) (suc n) = refl
word_suc_list (x ∷ m) zero n = refl
word_suc_list (x ∷ m) (suc at) n = word_suc_list m at n

pub word_suc : (m : List ℕ) (at n : ℕ) → word m at (suc n) ≡ get_or m at 0 + 256 * word m (at + 1) n
unfolding word
word_suc m at n = let e : at + 1 ≡ suc at = omega arith in word_suc_list m at n ∙ ap (λ k. get_or m at 0 + 256 * number (take n (drop k m))) (sym e)

pub word_none : (m : List ℕ) (at : ℕ) → word m at 0 ≡ 0
unfolding word
word_none m at = refl

take_set : (m : List ℕ) (i b : ℕ) → i < length m → take (i + 1) (set m i b) ≡ take i m ++ b ∷ []
take_set [] i b lt = absurd (omega arith)
take_set (x ∷ xs) zero b lt = refl
take_set (x ∷ xs) (suc i) b lt =
    let e : suc i + 1 ≡ suc (i + 1) = omega arith in
    ap (λ n. take n (x ∷ set xs i b)) e ∙ ap (λ l. x ∷ l) (take_set xs i b (omega arith))

drop_set : (m : List ℕ) (i j b : ℕ) → i < j → drop j (set m i b) ≡ drop j m
drop_set [] i j b lt = refl
drop_set (x ∷ xs) i zero b lt = absurd (omega arith)
drop_set (x ∷ xs) zero (suc j) b lt = refl
drop_set (x ∷ xs) (suc i) (suc j) b lt = drop_set xs i j b (omega arith)

put_suc : (m : List ℕ) (at n v : ℕ) → at + suc n ≤ length m → put m at (suc n) v ≡ put (set m at (v % 256)) (at + 1) n (v / 256)
unfolding put
put_suc m at n v within =
    let b = v % 256 in
    let rest = bytes_of n (v / 256) in
    let same : at + 1 + n ≡ at + suc n = omega arith in
    sym (
    ap (λ k. take (at + 1) (set m at b) ++ (rest ++ drop k (set m at b))) same
    ∙ ap (λ l. take (at + 1) (set m at b) ++ (rest ++ l)) (drop_set m at (at + suc n) b (omega arith))
    ∙ ap (λ l. l ++ (rest ++ drop (at + suc n) m)) (take_set m at b (omega arith))
    ∙ append_assoc (take at m) (b ∷ []) (rest ++ drop (at + suc n) m))

put_zero : (m : List ℕ) (at v : ℕ) → put m at 0 v ≡ m
unfolding put
put_zero m at v = let e : at + 0 ≡ at = omega arith in ap (λ k. take at m ++ drop k m) e ∙ take-append-drop at m

-- ---- what stays

pub keeps-refl : (m : List ℕ) (from len : ℕ) → Keeps m m from len
keeps-refl m from len = record { size = refl; before = λ k h. refl; after = λ k h. refl }

pub keeps-trans : (r s t : List ℕ) (from len : ℕ) → Keeps r s from len → Keeps s t from len → Keeps r t from len
keeps-trans r s t from len a b = record { size = b.size ∙ a.size; before = λ k h. b.before k h ∙ a.before k h; after = λ k h. b.after k h ∙ a.after k h }

pub keeps-wider : (r s : List ℕ) (at width from len : ℕ) → from ≤ at → at + width ≤ from + len → Keeps r s at width → Keeps r s from len
keeps-wider r s at width from len low high a = record { size = a.size; before = λ k h. a.before k (omega arith); after = λ k h. a.after k (omega arith) }

keeps-set : (m : List ℕ) (at v : ℕ) → Keeps m (set m at v) at 1
keeps-set m at v = record {
  size = length-set m at v;
  before = λ k h. get_or-set_other m at k v 0 (λ same. omega arith);
  after = λ k h. get_or-set_other m at k v 0 (λ same. omega arith);
}

pub keeps-put : (width : ℕ) (m : List ℕ) (at v : ℕ) → at + width ≤ length m → Keeps m (put m at width v) at width
keeps-put zero m at v within = rw (put_zero m at v) (keeps-refl m at 0)
keeps-put (suc width) m at v within =
    rw (put_suc m at width v within)
    (keeps-trans m _ _ at (suc width) (keeps-wider _ _ at 1 at (suc width) (omega arith) (omega arith) (keeps-set m at (v % 256)))
    (keeps-wider _ _ (at + 1) width at (suc width) (omega arith) (omega arith) (keeps-put width (set m at (v % 256)) (at + 1) (v / 256) (omega (arith, length-set m at (v % 256))))))

pub length-put : (width : ℕ) (m : List ℕ) (at v : ℕ) → at + width ≤ length m → length (put m at width v) ≡ length m
length-put width m at v within = (keeps-put width m at v within).size

-- ---- what was written is read

pub word-put : (width : ℕ) (m : List ℕ) (at v : ℕ) → at + width ≤ length m → v < 256 ^ width → word (put m at width v) at width ≡ v
word-put zero m at v within below = word_none (put m at 0 v) at ∙ omega (arith, below)
word-put (suc width) m at v within below =
    let inside : at + 1 + width ≤ length (set m at (v % 256)) = omega (arith, length-set m at (v % 256)) in
    let kept = keeps-put width (set m at (v % 256)) (at + 1) (v / 256) inside in
    let first = kept.before at (omega arith) ∙ get_or-set_same m at (v % 256) 0 (omega arith) in
    let power : 256 ^ suc width ≡ 256 ^ width * 256 = pow-suc 256 width in
    let rest = word-put width (set m at (v % 256)) (at + 1) (v / 256) inside (omega (arith, below, power)) in
    ap (λ l. word l at (suc width)) (put_suc m at width v within) ∙ word_suc _ at width ∙ ap (λ x. x + 256 * word (put (set m at (v % 256)) (at + 1) width (v / 256)) (at + 1) width) first ∙ ap (λ x. v % 256 + 256 * x) rest ∙ omega arith

-- a write elsewhere is not read
pub word-kept : (width : ℕ) (r s : List ℕ) (at from len : ℕ) → Keeps r s from len → (at + width ≤ from) ⊎ (from + len ≤ at) → word s at width ≡ word r at width
word-kept zero r s at from len kept apart = word_none s at ∙ sym (word_none r at)
word-kept (suc width) r s at from len kept (inl low) =
    word_suc s at width ∙ ap (λ x. x + 256 * word s (at + 1) width) (kept.before at (omega arith)) ∙ ap (λ x. get_or r at 0 + 256 * x) (word-kept width r s (at + 1) from len kept (inl (omega arith))) ∙ sym (word_suc r at width)
word-kept (suc width) r s at from len kept (inr high) =
    word_suc s at width ∙ ap (λ x. x + 256 * word s (at + 1) width) (kept.after at (omega arith)) ∙ ap (λ x. get_or r at 0 + 256 * x) (word-kept width r s (at + 1) from len kept (inr (omega arith))) ∙ sym (word_suc r at width)
