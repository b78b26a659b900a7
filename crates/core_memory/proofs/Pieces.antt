-- Bytes of a memory as a list of their own, page by page.
use Rattle.std.proofs.Common.{◌≡◌, ℕ, zero, suc, ◌+◌, ◌-◌, ◌/◌, ◌%◌, ◌<◌, ◌≤◌, List, [], ◌∷◌, ◌++◌, length, get_or, take, drop, replicate, refl, ap, sym, ◌∙◌, arith, take-add, Bool, true, false}
use Rattle.std.proofs.lemmas.List.{drop-drop}
use Rattle.std.specs.Prelude.{Result, Ok, Err, OnOk, is_ok, if◌then◌else◌}
use Rattle.core_memory.specs.Page.{Content, zeros}
use Rattle.core_memory.specs.Pages.{bytes_in, IsPaged}
use Rattle.core_memory.proofs.Sequence.{read_piece}

part : (n off len : ℕ) → off + len ≤ n → take len (drop off (replicate n (let none : ℕ = 0 in none))) ≡ replicate len 0
part n zero zero le = refl
part zero zero (suc len) le = absurd (omega arith)
part (suc n) zero (suc len) le = ap (λ (v : List ℕ). 0 ∷ v) (part n zero len (omega arith))
part zero (suc off) len le = absurd (omega arith)
part (suc n) (suc off) len le = part n off len (omega arith)

zeros_part : (n off len : ℕ) → off + len ≤ n → take len (drop off (zeros n)) ≡ replicate len 0
unfolding zeros
zeros_part n off len le = part n off len le

-- a piece of a page that is made, after others
pub piece_made : (ps : List Content) (at len n : ℕ) (p : Content) (page old new : List ℕ) → IsPaged ps → at / 65536 < length ps → at % 65536 + len ≤ 65536 → p ≡ get_or ps (at / 65536) p →
    page ≡ p.bytes → n ≡ len → new ≡ old ++ take n (drop (at % 65536) page) → new ≡ old ++ take len (drop at (bytes_in ps))
piece_made ps at len n p page old new w lt le here shown same is =
    is ∙ ap (λ (v : List ℕ). old ++ v) (ap (λ k. take k (drop (at % 65536) page)) same ∙ ap (λ (v : List ℕ). take len (drop (at % 65536) v)) shown ∙ sym (read_piece ps at len p w lt le here))

-- a piece of one that is not made
pub piece_blank : (ps : List Content) (at len : ℕ) (p : Content) (old new : List ℕ) → IsPaged ps → at / 65536 < length ps → at % 65536 + len ≤ 65536 → p ≡ get_or ps (at / 65536) p →
    p.bytes ≡ zeros 65536 → new ≡ old ++ replicate len 0 → new ≡ old ++ take len (drop at (bytes_in ps))
piece_blank ps at len p old new w lt le here blank is =
    is ∙ ap (λ (v : List ℕ). old ++ v) (sym (zeros_part 65536 (at % 65536) len le) ∙ ap (λ (v : List ℕ). take len (drop (at % 65536) v)) (sym blank) ∙ sym (read_piece ps at len p w lt le here))

-- one piece more
pub piece_more : (xs old new : List ℕ) (at d n : ℕ) → old ≡ take d (drop at xs) → new ≡ old ++ take n (drop (at + d) xs) → new ≡ take (d + n) (drop at xs)
piece_more xs old new at d n was is =
    is ∙ ap (λ (v : List ℕ). v ++ take n (drop (at + d) xs)) was ∙ ap (λ (v : List ℕ). take d (drop at xs) ++ take n v) (sym (drop-drop d at xs)) ∙ sym (take-add d n (drop at xs))

-- ---- what the calls on the list answered

pub on_ok : {A E : Type 0} (r : Result A E) (new grown kept goal : List ℕ) → new ≡ (if is_ok r then grown else kept) → grown ≡ goal → OnOk r (new ≡ goal)
on_ok (Ok x) new grown kept goal is same = is ∙ same
on_ok (Err e) new grown kept goal is same = tt

take_whole : (xs : List ℕ) (n : ℕ) → length xs ≤ n → take n xs ≡ xs
take_whole [] zero le = refl
take_whole [] (suc n) le = refl
take_whole (x ∷ xs) zero le = absurd (omega arith)
take_whole (x ∷ xs) (suc n) le = ap (λ (v : List ℕ). x ∷ v) (take_whole xs n (omega arith))

pub filled_up : (old : List ℕ) (m l len : ℕ) → m ≡ length old → l ≡ length old → take (m + len) old ++ replicate (m + len - l) 0 ≡ old ++ replicate len 0
filled_up old m l len first second =
    ap (λ (v : List ℕ). v ++ replicate (m + len - l) 0) (take_whole old (m + len) (let le : length old ≤ m + len = omega arith in le)) ∙ ap (λ k. old ++ replicate k 0) (let e : m + len - l ≡ len = omega arith in e)

pub unmade : (made : Bool) (page bytes : List ℕ) → page ≡ (if made then bytes else []) → length bytes ≡ 65536 → length page ≡ 0 → made ≡ false
unmade true page bytes is long none = absurd (let e : length page ≡ length bytes = ap length is in omega arith)
unmade false page bytes is long none = refl

pub shown : (made : Bool) (page bytes : List ℕ) → page ≡ (if made then bytes else []) → 0 < length page → page ≡ bytes
shown true page bytes is some = is
shown false page bytes is some = absurd (let e : length page ≡ 0 = ap length is in omega arith)
