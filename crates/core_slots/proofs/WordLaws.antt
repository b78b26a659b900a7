-- The slots in one list of words.
use Rattle.std.proofs.Common.{zero, suc, refl, ◌≡◌, ℕ, ◌+◌, ◌-◌, ◌<◌, ◌≤◌, List, [], ◌∷◌, ◌++◌, length, take, drop, get_or, sym, ap, ◌∙◌, arith, append_assoc, length-drop}
use Rattle.std.specs.Prelude.{reverse, replicate, slice_set}
use Rattle.std.proofs.lemmas.List.{reverse-append, reverse-reverse, length-reverse, length-set, length-take-le, take-append-drop, take_at, drop_at, take_all, drop_all, take-take, take-append-le, drop-append-le, drop-drop, drop-take, take-set-le, drop-set-lt, drop-set-add, take_more_set, take_more, get_or-drop}
use Rattle.std.proofs.Math.Seq.{take-set-lt}
use Rattle.core_store.specs.Config.{kept}
use Rattle.core_slots.specs.Stacked.{Held, Stacked, with_operands, with_local, opened, closed}
use Rattle.core_slots.specs.declared.slots.Base.{Base}
use Rattle.core_store.specs.declared.value.CoreValue.{CoreValue}
use Rattle.core_store.specs.Words.{word_of, words}
use Rattle.core_slots.specs.Layout.{held, stacked, IsLaid}

-- one word is moved down
pub lower_step : (ws xs : List ℕ) (to from i : ℕ) → to < from → from + i < length ws → length xs ≡ length ws → take (to + i) xs ≡ take to ws ++ take i (drop from ws) → drop (to + i) xs ≡ drop (to + i) ws → (take (to + (i + 1)) (slice_set xs (to + i) (get_or xs (from + i) 0)) ≡ take to ws ++ take (i + 1) (drop from ws)) × (drop (to + (i + 1)) (slice_set xs (to + i) (get_or xs (from + i) 0)) ≡ drop (to + (i + 1)) ws)
lower_step ws xs to from i lt within len front back =
    let n : to + (i + 1) ≡ to + i + 1 = omega arith in
    let k : to + i + (from - to) ≡ from + i = omega arith in
    let w : get_or xs (from + i) 0 ≡ get_or (drop from ws) i 0 =
    ap (λ j. get_or xs j 0) (sym k) ∙ sym (get_or-drop (to + i) xs (from - to) 0) ∙ ap (λ l. get_or l (from - to) 0) back ∙ get_or-drop (to + i) ws (from - to) 0 ∙ ap (λ j. get_or ws j 0) k ∙ sym (get_or-drop from ws i 0) in
    let a : take (to + (i + 1)) (slice_set xs (to + i) (get_or xs (from + i) 0)) ≡ take (to + i) xs ++ (get_or xs (from + i) 0 ∷ []) =
    ap (λ j. take j (slice_set xs (to + i) (get_or xs (from + i) 0))) n ∙ take_more_set xs (to + i) (get_or xs (from + i) 0) (omega arith) in
    let b : take (i + 1) (drop from ws) ≡ take i (drop from ws) ++ (get_or (drop from ws) i 0 ∷ []) = take_more (drop from ws) i 0 (omega (arith, length-drop from ws)) in (
      a ∙ ap (λ l. l ++ (get_or xs (from + i) 0 ∷ [])) front ∙ append_assoc (take to ws) (take i (drop from ws)) (get_or xs (from + i) 0 ∷ []) ∙ ap (λ x. take to ws ++ (take i (drop from ws) ++ (x ∷ []))) w ∙ ap (λ l. take to ws ++ l) (sym b),
      drop-set-lt (to + (i + 1)) xs (to + i) _ (omega arith) ∙ ap (λ j. drop j xs) n ∙ sym (drop-drop 1 (to + i) xs) ∙ ap (λ l. drop 1 l) back ∙ drop-drop 1 (to + i) ws ∙ ap (λ j. drop j ws) (sym n),
    )

-- the last items, the last one first
pub last_first : (xs : List ℕ) (k : ℕ) → k ≤ length xs → take k (reverse xs) ≡ reverse (drop (length xs - k) xs)
last_first xs k le =
    let n = length xs - k in
    let e : reverse xs ≡ reverse (drop n xs) ++ reverse (take n xs) = ap reverse (sym (take-append-drop n xs)) ∙ reverse-append (take n xs) (drop n xs) in
    ap (take k) e ∙ take_at (reverse (drop n xs)) (reverse (take n xs)) k (omega (arith, length-reverse (drop n xs), length-drop n xs))

pub rest_first : (xs : List ℕ) (k : ℕ) → k ≤ length xs → drop (length xs - k) (reverse xs) ≡ reverse (take k xs)
rest_first xs k le =
    let e : reverse xs ≡ reverse (drop k xs) ++ reverse (take k xs) = ap reverse (sym (take-append-drop k xs)) ∙ reverse-append (take k xs) (drop k xs) in
    ap (drop (length xs - k)) e ∙ drop_at (reverse (drop k xs)) (reverse (take k xs)) (length xs - k) (omega (arith, length-reverse (drop k xs), length-drop k xs))

stack_eq : (a b : List ℕ) (c d : List ℕ) (e f : List Held) → a ≡ b → c ≡ d → e ≡ f → ◌≡◌ {A = Stacked} (record { operands = a; locals = c; callers = e }) (record { operands = b; locals = d; callers = f })
stack_eq a b c d e f p q r = cc

pub set_view : (ws : List ℕ) (l o at v : ℕ) (bs : List Base) → l ≤ o → o ≤ length ws → at < length (drop l (take o ws)) → stacked (slice_set ws (l + at) v) l o bs ≡ with_local (stacked ws l o bs) at v
set_view ws l o at v bs lo hi lt =
    let n = length-take-le o ws hi in
    let in_o : l + at < o = omega (arith, length-drop l (take o ws), n) in
    stack_eq _ _ _ _ _ _
    (ap reverse (drop-set-lt o ws (l + at) v in_o))
    (ap (drop l) (take-set-lt o ws (l + at) v in_o) ∙ drop-set-add l (take o ws) at v)
    (ap (λ xs. held xs bs) (take-set-le l ws (l + at) v (omega arith)))

-- the words below the operands stay
take_lowered : (ws ys : List ℕ) (k n : ℕ) → k ≤ n → n ≤ length ws → take k (take n ws ++ ys) ≡ take k ws
take_lowered ws ys k n le hi =
    take-append-le k (take n ws) ys (omega (arith, length-take-le n ws hi)) ∙ take-take k n ws le

pub keep_view : (ws : List ℕ) (l o a h : ℕ) (bs : List Base) → l ≤ o → o ≤ length ws → a + h ≤ length (reverse (drop o ws)) → stacked (take (o + h) ws ++ drop (length ws - a) ws) l o bs ≡ with_operands (stacked ws l o bs) (kept a h (reverse (drop o ws)))
keep_view ws l o a h bs lo hi fits =
    let len : length (reverse (drop o ws)) ≡ length ws - o = length-reverse (drop o ws) ∙ length-drop o ws in
    let ld : length (drop o ws) ≡ length ws - o = length-drop o ws in
    let oh : o + h ≤ length ws = omega arith in
    let cut : drop o (take (o + h) ws ++ drop (length ws - a) ws) ≡ take h (drop o ws) ++ drop (length ws - a) ws =
    drop-append-le o (take (o + h) ws) (drop (length ws - a) ws) (omega (arith, length-take-le (o + h) ws oh)) ∙ ap (λ xs. xs ++ drop (length ws - a) ws) (drop-take o h ws) in
    let top : reverse (drop (length ws - a) ws) ≡ take a (reverse (drop o ws)) =
    (let n : length ws - a ≡ o + (length (drop o ws) - a) = omega arith in
    ap (λ k. reverse (drop k ws)) n ∙ ap reverse (sym (drop-drop (length (drop o ws) - a) o ws)) ∙ sym (last_first (drop o ws) a (omega arith))) in
    let low : reverse (take h (drop o ws)) ≡ drop (length (reverse (drop o ws)) - h) (reverse (drop o ws)) =
    sym (ap (λ k. drop (k - h) (reverse (drop o ws))) (length-reverse (drop o ws)) ∙ rest_first (drop o ws) h (omega arith)) in
    stack_eq _ _ _ _ _ _
    (ap reverse cut ∙ reverse-append (take h (drop o ws)) (drop (length ws - a) ws) ∙ ap (λ xs. xs ++ reverse (take h (drop o ws))) top ∙ ap (λ xs. take a (reverse (drop o ws)) ++ xs) low)
    (ap (drop l) (take_lowered ws _ o (o + h) (omega arith) oh))
    (ap (λ xs. held xs bs) (take_lowered ws _ l (o + h) (omega arith) oh))

pub open_view : (ws : List ℕ) (l o p z : ℕ) (b : Base) (bs : List Base) → b.locals ≡ l → b.operands ≡ o → l ≤ o → o ≤ length ws → p ≤ length (reverse (drop o ws)) → stacked (ws ++ replicate z 0) (length ws - p) (length (ws ++ replicate z 0)) (b ∷ bs) ≡ opened p z (stacked ws l o bs)
open_view ws l o p z b bs el eo lo hi fits =
    let len : length (reverse (drop o ws)) ≡ length ws - o = length-reverse (drop o ws) ∙ length-drop o ws in
    let ld : length (drop o ws) ≡ length ws - o = length-drop o ws in
    let q = length ws - p in
    let all = ws ++ replicate z 0 in
    let front : take q all ≡ take q ws = take-append-le q ws (replicate z 0) (omega arith) in
    let args : drop q ws ≡ reverse (take p (reverse (drop o ws))) =
    (let n : o + (length (drop o ws) - p) ≡ q = omega arith in
    sym (ap reverse (last_first (drop o ws) p (omega arith)) ∙ reverse-reverse (drop (length (drop o ws) - p) (drop o ws)) ∙ drop-drop (length (drop o ws) - p) o ws ∙ ap (λ k. drop k ws) n)) in
    let left : reverse (drop b.operands (take q all)) ≡ drop p (reverse (drop o ws)) =
    (let n : q ≡ o + (length (drop o ws) - p) = omega arith in
    let m : length (drop o ws) - (length (drop o ws) - p) ≡ p = omega arith in
    ap (λ xs. reverse (drop b.operands xs)) front ∙ ap (λ k. reverse (drop k (take q ws))) eo ∙ ap (λ k. reverse (drop o (take k ws))) n ∙ ap reverse (drop-take o (length (drop o ws) - p) ws) ∙ sym (rest_first (drop o ws) (length (drop o ws) - p) (omega arith)) ∙ ap (λ k. drop k (reverse (drop o ws))) m) in
    let held_locals : drop b.locals (take b.operands (take q all)) ≡ drop l (take o ws) =
    ap (λ k. drop k (take b.operands (take q all))) el ∙ ap (λ k. drop l (take k (take q all))) eo ∙ ap (λ xs. drop l (take o xs)) front ∙ ap (drop l) (take-take o q ws (omega arith)) in
    let below : held (take b.locals (take q all)) bs ≡ held (take l ws) bs =
    ap (λ k. held (take k (take q all)) bs) el ∙ ap (λ xs. held (take l xs) bs) front ∙ ap (λ xs. held xs bs) (take-take l q ws (omega arith)) in
    stack_eq _ _ _ _ _ _
    (ap reverse (drop_all (length all) all (omega arith)))
    (ap (drop q) (take_all (length all) all (omega arith)) ∙ drop-append-le q ws (replicate z 0) (omega arith) ∙ ap (λ xs. xs ++ replicate z 0) args)
    (held_eq _ _ _ _ _ _ left held_locals below)
  where
    held_eq : (a b c d : List ℕ) (e f : List Held) → a ≡ b → c ≡ d → e ≡ f → ◌≡◌ {A = List Held} (record { operands = a; locals = c } ∷ e) (record { operands = b; locals = d } ∷ f)
    held_eq a b c d e f p q r = cc

pub close_view : (ws : List ℕ) (l o r : ℕ) (b : Base) (bs : List Base) → l ≤ o → o ≤ length ws → b.operands ≤ l → b.locals ≤ b.operands → r ≤ length (reverse (drop o ws)) → stacked (take l ws ++ drop (length ws - r) ws) b.locals b.operands bs ≡ closed r (stacked ws l o (b ∷ bs)) (record { operands = reverse (drop b.operands (take l ws)); locals = drop b.locals (take b.operands (take l ws)) }) (held (take b.locals (take l ws)) bs)
close_view ws l o r b bs lo hi bl bb fits =
    let len : length (reverse (drop o ws)) ≡ length ws - o = length-reverse (drop o ws) ∙ length-drop o ws in
    let ld : length (drop o ws) ≡ length ws - o = length-drop o ws in
    let lt = length-take-le l ws (omega arith) in
    let top : reverse (drop (length ws - r) ws) ≡ take r (reverse (drop o ws)) =
    (let n : length ws - r ≡ o + (length (drop o ws) - r) = omega arith in
    ap (λ k. reverse (drop k ws)) n ∙ ap reverse (sym (drop-drop (length (drop o ws) - r) o ws)) ∙ sym (last_first (drop o ws) r (omega arith))) in
    stack_eq _ _ _ _ _ _
    (ap reverse (drop-append-le b.operands (take l ws) (drop (length ws - r) ws) (omega arith)) ∙ reverse-append (drop b.operands (take l ws)) (drop (length ws - r) ws) ∙ ap (λ xs. xs ++ reverse (drop b.operands (take l ws))) top)
    (ap (drop b.locals) (take-append-le b.operands (take l ws) (drop (length ws - r) ws) (omega arith)))
    (ap (λ xs. held xs bs) (take-append-le b.locals (take l ws) (drop (length ws - r) ws) (omega arith)))

closed_eq : (r : ℕ) (s t : Stacked) (h c : Held) (hs cs : List Held) → s ≡ t → ◌≡◌ {A = List Held} (h ∷ hs) (c ∷ cs) → closed r s h hs ≡ closed r t c cs
closed_eq r s t h c hs cs e f =
    let p : h ≡ c = cc in let q : hs ≡ cs = cc in
    ap (λ x. closed r x h hs) e ∙ ap (λ x. closed r t x hs) p ∙ ap (λ x. closed r t c x) q

pub close_at : (ws : List ℕ) (l o r : ℕ) (b : Base) (bs : List Base) (s : Stacked) (c : Held) (cs : List Held) → IsLaid ws l o (b ∷ bs) → stacked ws l o (b ∷ bs) ≡ s → s.callers ≡ c ∷ cs → r ≤ length s.operands → stacked (take l ws ++ drop (length ws - r) ws) b.locals b.operands bs ≡ closed r s c cs
close_at ws l o r b bs s c cs laid e f fits =
    let fits' : r ≤ length (reverse (drop o ws)) = (let n : length (reverse (drop o ws)) ≡ length s.operands = ap (λ (x : Stacked). length x.operands) e in omega arith) in
    close_view ws l o r b bs laid.low laid.high laid.nested.1 laid.nested.0 fits'
    ∙ closed_eq r _ _ _ _ _ _ e (ap (λ (x : Stacked). x.callers) e ∙ f)

pub keep_at : (ws : List ℕ) (l o a h : ℕ) (bs : List Base) (s : Stacked) → IsLaid ws l o bs → stacked ws l o bs ≡ s → a + h ≤ length s.operands → stacked (take (o + h) ws ++ drop (length ws - a) ws) l o bs ≡ with_operands s (kept a h s.operands)
keep_at ws l o a h bs s laid e fits =
    let fits' : a + h ≤ length (reverse (drop o ws)) = (let n : length (reverse (drop o ws)) ≡ length s.operands = ap (λ (x : Stacked). length x.operands) e in omega arith) in
    keep_view ws l o a h bs laid.low laid.high fits' ∙ ap (λ (x : Stacked). with_operands x (kept a h x.operands)) e

pub open_at : (ws : List ℕ) (l o p z : ℕ) (b : Base) (bs : List Base) (s : Stacked) → b.locals ≡ l → b.operands ≡ o → IsLaid ws l o bs → stacked ws l o bs ≡ s → p ≤ length s.operands → stacked (ws ++ replicate z 0) (length ws - p) (length (ws ++ replicate z 0)) (b ∷ bs) ≡ opened p z s
open_at ws l o p z b bs s el eo laid e fits =
    let fits' : p ≤ length (reverse (drop o ws)) = (let n : length (reverse (drop o ws)) ≡ length s.operands = ap (λ (x : Stacked). length x.operands) e in omega arith) in
    open_view ws l o p z b bs el eo laid.low laid.high fits' ∙ ap (opened p z) e

pub set_local_at : (ws : List ℕ) (l o at v : ℕ) (bs : List Base) (s : Stacked) → IsLaid ws l o bs → stacked ws l o bs ≡ s → at < length s.locals → stacked (slice_set ws (l + at) v) l o bs ≡ with_local s at v
set_local_at ws l o at v bs s laid e lt =
    let lt' : at < length (drop l (take o ws)) = (let n : length (drop l (take o ws)) ≡ length s.locals = ap (λ (x : Stacked). length x.locals) e in omega arith) in
    set_view ws l o at v bs laid.low laid.high lt' ∙ ap (λ (x : Stacked). with_local x at v) e

pub top_at : (ws : List ℕ) (l o p : ℕ) (bs : List Base) (s : Stacked) → IsLaid ws l o bs → stacked ws l o bs ≡ s → p ≤ length s.operands → drop (length ws - p) ws ≡ reverse (take p s.operands)
top_at ws l o p bs s laid e fits =
    let n1 : length (reverse (drop o ws)) ≡ length s.operands = ap (λ (x : Stacked). length x.operands) e in
    let n2 = length-reverse (drop o ws) in
    let n3 = length-drop o ws in
    let hi = laid.high in
    let n : o + (length (drop o ws) - p) ≡ length ws - p = omega arith in
    sym (ap (λ (x : Stacked). reverse (take p x.operands)) (sym e) ∙ ap reverse (last_first (drop o ws) p (omega arith)) ∙ reverse-reverse (drop (length (drop o ws) - p) (drop o ws)) ∙ drop-drop (length (drop o ws) - p) o ws ∙ ap (λ k. drop k ws) n)

pub drop_top_at : (ws : List ℕ) (l o p : ℕ) (bs : List Base) (s : Stacked) → IsLaid ws l o bs → stacked ws l o bs ≡ s → p ≤ length s.operands → stacked (take (length ws - p) ws) l o bs ≡ with_operands s (drop p s.operands)
drop_top_at ws l o p bs s laid e fits =
    let n1 : length (reverse (drop o ws)) ≡ length s.operands = ap (λ (x : Stacked). length x.operands) e in
    let n2 = length-reverse (drop o ws) in
    let n3 = length-drop o ws in
    let hi = laid.high in
    let lo = laid.low in
    let n : length ws - p ≡ o + (length (drop o ws) - p) = omega arith in
    let m : length (drop o ws) - (length (drop o ws) - p) ≡ p = omega arith in
    stack_eq _ _ _ _ _ _
    (ap (λ k. reverse (drop o (take k ws))) n ∙ ap reverse (drop-take o (length (drop o ws) - p) ws) ∙ sym (rest_first (drop o ws) (length (drop o ws) - p) (omega arith)) ∙ ap (λ k. drop k (reverse (drop o ws))) m)
    (ap (drop l) (take-take o (length ws - p) ws (omega arith)))
    (ap (λ xs. held xs bs) (take-take l (length ws - p) ws (omega arith)))
    ∙ ap (λ (x : Stacked). with_operands x (drop p x.operands)) e

-- words are added on top
pub push_at : (ws vs : List ℕ) (l o : ℕ) (bs : List Base) (s : Stacked) → IsLaid ws l o bs → stacked ws l o bs ≡ s → stacked (ws ++ vs) l o bs ≡ with_operands s (reverse vs ++ s.operands)
push_at ws vs l o bs s laid e =
    let hi = laid.high in
    let lo = laid.low in
    stack_eq _ _ _ _ _ _
    (ap reverse (drop-append-le o ws vs hi) ∙ reverse-append (drop o ws) vs)
    (ap (drop l) (take-append-le o ws vs hi))
    (ap (λ xs. held xs bs) (take-append-le l ws vs (omega arith)))
    ∙ ap (λ (x : Stacked). with_operands x (reverse vs ++ x.operands)) e

laid_shorter : (ws : List ℕ) (l o n : ℕ) (bs : List Base) → IsLaid ws l o bs → o ≤ n → n ≤ length ws → IsLaid (take n ws) l o bs
laid_shorter ws l o n bs laid le hi = record { low = laid.low; high = omega (arith, length-take-le n ws hi); nested = laid.nested }

-- words are written over the topmost
pub put_at : (ws vs : List ℕ) (l o n p : ℕ) (bs : List Base) (s : Stacked) → IsLaid ws l o bs → stacked ws l o bs ≡ s → p ≤ length s.operands → n ≡ length ws - p → stacked (take n ws ++ vs) l o bs ≡ with_operands s (reverse vs ++ drop p s.operands)
put_at ws vs l o n p bs s laid e fits at =
    let n1 : length (reverse (drop o ws)) ≡ length s.operands = ap (λ (x : Stacked). length x.operands) e in
    let n2 = length-reverse (drop o ws) in
    let n3 = length-drop o ws in
    let hi = laid.high in
    push_at (take n ws) vs l o bs _ (laid_shorter ws l o n bs laid (omega arith) (omega arith)) (ap (λ k. stacked (take k ws) l o bs) at ∙ drop_top_at ws l o p bs s laid e fits)

pub some_words : (ws : List ℕ) (l o : ℕ) (bs : List Base) (s : Stacked) → stacked ws l o bs ≡ s → 0 < length s.operands → 0 < length ws
some_words ws l o bs s e some =
    let n1 : length (reverse (drop o ws)) ≡ length s.operands = ap (λ (x : Stacked). length x.operands) e in
    let n2 = length-reverse (drop o ws) in
    let n3 = length-drop o ws in
    omega arith

-- the topmost word
last_word : (n : ℕ) (xs : List ℕ) → n + 1 ≡ length xs → drop n xs ≡ get_or xs n 0 ∷ []
last_word n [] e = absurd (omega arith)
last_word zero (x ∷ []) e = refl
last_word zero (x ∷ y ∷ xs) e = absurd (omega arith)
last_word (suc n) (x ∷ xs) e = last_word n xs (omega arith)

first_is : (xs : List ℕ) (w : ℕ) → 0 < length xs → w ∷ [] ≡ reverse (take 1 xs) → xs ≡ w ∷ drop 1 xs
first_is [] w lt e = absurd (omega arith)
first_is (x ∷ xs) w lt e = ap (λ v. v ∷ xs) (same x w e)
  where
    same : (x w : ℕ) → w ∷ [] ≡ x ∷ [] → x ≡ w
    same x w e = cc

pub first_at : (ws : List ℕ) (l o n w : ℕ) (bs : List Base) (s : Stacked) → IsLaid ws l o bs → stacked ws l o bs ≡ s → 0 < length s.operands → n ≡ length ws - 1 → w ≡ get_or ws n 0 → s ≡ with_operands s (w ∷ drop 1 s.operands)
first_at ws l o n w bs s laid e some en ew =
    let n1 : length (reverse (drop o ws)) ≡ length s.operands = ap (λ (x : Stacked). length x.operands) e in
    let n2 = length-reverse (drop o ws) in
    let n3 = length-drop o ws in
    let hi = laid.high in
    let one : drop (length ws - 1) ws ≡ get_or ws (length ws - 1) 0 ∷ [] = last_word (length ws - 1) ws (omega arith) in
    let here : w ∷ [] ≡ reverse (take 1 s.operands) = ap (λ v. v ∷ []) (ew ∙ ap (λ k. get_or ws k 0) en) ∙ sym one ∙ top_at ws l o 1 bs s laid e (omega arith) in
    ap (with_operands s) (first_is s.operands w some here)

pub set_top_at : (ws : List ℕ) (l o n v : ℕ) (bs : List Base) (s : Stacked) → IsLaid ws l o bs → stacked ws l o bs ≡ s → 0 < length s.operands → n ≡ length ws - 1 → stacked (slice_set ws n v) l o bs ≡ with_operands s (v ∷ drop 1 s.operands)
set_top_at ws l o n v bs s laid e some en =
    let n1 : length (reverse (drop o ws)) ≡ length s.operands = ap (λ (x : Stacked). length x.operands) e in
    let n2 = length-reverse (drop o ws) in
    let n3 = length-drop o ws in
    let hi = laid.high in
    let within : n < length ws = omega arith in
    let whole : slice_set ws n v ≡ take n ws ++ (v ∷ []) = sym (take_all (n + 1) (slice_set ws n v) (omega (arith, length-set ws n v))) ∙ take_more_set ws n v within in
    ap (λ xs. stacked xs l o bs) whole ∙ put_at ws (v ∷ []) l o n 1 bs s laid e (omega arith) en

-- values are turned to words one after another
pub words_none : (vs : List CoreValue) → words (take 0 vs) ≡ []
words_none vs = refl

words_suc : (vs : List CoreValue) (i : ℕ) (d : CoreValue) → i < length vs → words (take (suc i) vs) ≡ words (take i vs) ++ word_of (get_or vs i d) ∷ []
words_suc [] i d lt = absurd (omega arith)
words_suc (v ∷ vs) zero d lt = refl
words_suc (v ∷ vs) (suc i) d lt = ap (λ ws. word_of v ∷ ws) (words_suc vs i d (omega arith))

pub words_more : (vs : List CoreValue) (i : ℕ) (d : CoreValue) → i < length vs → words (take (i + 1) vs) ≡ words (take i vs) ++ word_of (get_or vs i d) ∷ []
words_more vs i d lt = let n : i + 1 ≡ suc i = omega arith in ap (λ k. words (take k vs)) n ∙ words_suc vs i d lt

pub words_all : (n : ℕ) (vs : List CoreValue) → length vs ≤ n → words (take n vs) ≡ words vs
words_all n vs le = ap words (take_all n vs le)

-- one word is written at its place
pub put_step : (ws xs : List ℕ) (vs : List CoreValue) (from i w : ℕ) → from + i < length ws → length xs ≡ length ws → take (from + i) xs ≡ take from ws ++ words (take i vs) → words (take (i + 1) vs) ≡ words (take i vs) ++ w ∷ [] → take (from + (i + 1)) (slice_set xs (from + i) w) ≡ take from ws ++ words (take (i + 1) vs)
put_step ws xs vs from i w within len front one =
    let n : from + (i + 1) ≡ from + i + 1 = omega arith in
    ap (λ j. take j (slice_set xs (from + i) w)) n ∙ take_more_set xs (from + i) w (omega arith) ∙ ap (λ l. l ++ (w ∷ [])) front ∙ append_assoc (take from ws) (words (take i vs)) (w ∷ []) ∙ ap (λ l. take from ws ++ l) (sym one)
