-- What a page shows.
use Rattle.std.proofs.Common.{◌≡◌, ℕ, ◌+◌, ◌-◌, ◌≤◌, ◌<◌, List, [], ◌∷◌, length, replicate, take, drop, refl, ap, sym, ◌∙◌, true, false, arith, Bool}
use Rattle.std.specs.Prelude.{if◌then◌else◌}
use Rattle.std.specs.List.{splice}
use Rattle.core_memory.specs.Replaced.{replaced}
use Rattle.std.proofs.lemmas.List.{take-replicate, drop-replicate, length-replicate}
use Rattle.core_memory.specs.Page.{zeros, Content, content, IsKept}

pub length_zeros : (n : ℕ) → length (zeros n) ≡ n
unfolding zeros
length_zeros n = length-replicate n 0

pub content_long : (bs : List ℕ) → length bs ≡ 65536 → content bs ≡ record { bytes = bs; made = true }
content_long [] e = absurd (omega arith)
content_long (b ∷ bs) e = refl

pub kept_zeros : (bs : List ℕ) → bs ≡ zeros 65536 → IsKept bs
kept_zeros bs e = let n : length bs ≡ 65536 = ap length e ∙ length_zeros 65536 in rw n refl

pub length_content : (bs : List ℕ) → IsKept bs → length (content bs).bytes ≡ 65536
length_content [] k = length_zeros 65536
length_content (b ∷ bs) k = grind (arith, k)

pub length_shown : (bs : List ℕ) (p : Content) → content bs ≡ p → IsKept bs → length p.bytes ≡ 65536
length_shown bs p e k = rw (← e) (length_content bs k)

-- that many bytes of a page that is not made
pub zeros_range : (n from len : ℕ) → from + len ≤ n → take len (drop from (zeros n)) ≡ replicate len 0
unfolding zeros
zeros_range n from len le = ap (take len) (drop-replicate from n 0) ∙ take-replicate len (n - from) 0 (omega arith)

pub blank_shown : (bs : List ℕ) (p : Content) → content bs ≡ p → p.made ≡ false → p.bytes ≡ zeros 65536
blank_shown [] p e m = rw (← e) refl
blank_shown (b ∷ bs) p e m = let t : true ≡ false = (let f = ap (λ (q : Content). q.made) e in cc) in cc

-- the bytes of a page, which are none where it is not made
pub unmade : (m : Bool) (bs r : List ℕ) → r ≡ (if m then bs else []) → length bs ≡ 65536 → length r ≡ 0 → m ≡ false
unmade true bs r e n z = absurd (omega (arith, ap length e))
unmade false bs r e n z = refl

pub made_bytes : (m : Bool) (bs r : List ℕ) (k : ℕ) → r ≡ (if m then bs else []) → k < length r → (m ≡ true) × (r ≡ bs)
made_bytes true bs r k e lt = (refl, e)
made_bytes false bs r k e lt = absurd (omega (arith, ap length e))

-- zeros are copied from a page that is not made
pub copied_zeros : (xs ys : List ℕ) (to from len : ℕ) → ys ≡ zeros 65536 → from + len ≤ 65536 → splice xs to (to + len) (replicate len 0) ≡ replaced xs to (take len (drop from ys))
copied_zeros xs ys to from len e le =
    let z : take len (drop from ys) ≡ replicate len 0 = ap (λ (v : List ℕ). take len (drop from v)) e ∙ zeros_range 65536 from len le in
    ap (λ n. splice xs to (to + n) (replicate len 0)) (sym (length-replicate len 0)) ∙ ap (λ (v : List ℕ). replaced xs to v) (sym z)

pub empty_unmade : (bs : List ℕ) (p : Content) → content bs ≡ p → length bs ≡ 0 → p.made ≡ false
empty_unmade [] p e n = rw (← e) refl
empty_unmade (b ∷ bs) p e n = absurd (omega arith)
