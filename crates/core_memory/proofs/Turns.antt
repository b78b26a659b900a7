-- The turns of the loops that go from page to page.
use Rattle.std.proofs.Common.{◌≡◌, ℕ, ◌+◌, ◌*◌, ◌-◌, ◌≤◌, List, [], ◌++◌, length, take, drop, refl, ap, sym, ◌∙◌, subst, arith, length-drop, length-take-le, take-take, take-append-drop, take-add}
use Rattle.std.proofs.lemmas.List.{drop-drop, drop-take, drop_all, replicate-append-replicate, length-take}
use Rattle.core_memory.specs.Page.{Content}
use Rattle.core_memory.specs.Pages.{bytes_in, Edits, IsPaged}
use Rattle.core_memory.specs.Replaced.{repeated}
use Rattle.core_memory.proofs.Parts.{above_replaced, below_replaced}
use Rattle.core_memory.proofs.Sequence.{edits_none, edits_more, edits_before, length_bytes_in, length_repeated}

pub write_turn : (ps qs rs : List Content) (at d n m : ℕ) (bs v : List ℕ) → IsPaged ps → at + length bs ≤ 65536 * length ps → m ≡ d + n → m ≤ length bs → v ≡ take (m - d) (drop d bs) → Edits ps qs at (take d bs) → Edits qs rs (at + d) v → Edits ps rs at (take m bs)
write_turn ps qs rs at d n m bs v w le sum lm e a b =
    let k : length (take d bs) ≡ d = length-take-le d bs (omega arith) in
    let part : v ≡ take n (drop d bs) = e ∙ ap (λ j. take j (drop d bs)) (omega arith) in
    let joined : take d bs ++ v ≡ take m bs = ap (λ (x : List ℕ). take d bs ++ x) part ∙ sym (take-add d n bs) ∙ ap (λ j. take j bs) (sym sum) in
    subst (λ (x : List ℕ). Edits ps rs at x) joined (edits_more ps qs rs at (at + d) (take d bs) v w (omega arith) (omega arith) a b)

repeated_add : (m n x : ℕ) → repeated m x ++ repeated n x ≡ repeated (m + n) x
unfolding repeated
repeated_add m n x = replicate-append-replicate m n x

pub repeated_none : (x : ℕ) → repeated 0 x ≡ []
unfolding repeated
repeated_none x = refl

pub fill_none : (ps : List Content) (at x : ℕ) → IsPaged ps → Edits ps ps at (repeated 0 x)
fill_none ps at x w = subst (λ (v : List ℕ). Edits ps ps at v) (sym (repeated_none x)) (edits_none ps at w)

pub fill_turn : (ps qs rs : List Content) (at d n m x : ℕ) → IsPaged ps → at ≤ 65536 * length ps → m ≡ d + n → Edits ps qs at (repeated d x) → Edits qs rs (at + d) (repeated n x) → Edits ps rs at (repeated m x)
fill_turn ps qs rs at d n m x w le sum a b =
    subst (λ (v : List ℕ). Edits ps rs at v) (repeated_add d n x ∙ ap (λ j. repeated j x) (sym sum))
    (edits_more ps qs rs at (at + d) (repeated d x) (repeated n x) w le (let k = length_repeated d x in omega arith) a b)

-- a piece of the part that is copied
piece_of : (xs : List ℕ) (from len d n : ℕ) → d + n ≤ len → take n (drop d (take len (drop from xs))) ≡ take n (drop (from + d) xs)
piece_of xs from len d n le =
    let e : d + (len - d) ≡ len = omega arith in
    ap (λ j. take n (drop d (take j (drop from xs)))) (sym e) ∙ ap (take n) (drop-take d (len - d) (drop from xs)) ∙ take-take n (len - d) (drop d (drop from xs)) (omega arith) ∙ ap (take n) (drop-drop d from xs)

pub length_part : (xs : List ℕ) (from len : ℕ) → from + len ≤ length xs → length (take len (drop from xs)) ≡ len
length_part xs from len le = length-take-le len (drop from xs) (let k = length-drop from xs in omega arith)

pub copy_up_turn : (ps qs rs : List Content) (to from len d n m : ℕ) → IsPaged ps → to ≤ from → from + len ≤ 65536 * length ps → m ≡ d + n → m ≤ len
    → Edits ps qs to (take d (take len (drop from (bytes_in ps)))) → Edits qs rs (to + d) (take n (drop (from + d) (bytes_in qs))) → Edits ps rs to (take m (take len (drop from (bytes_in ps))))
copy_up_turn ps qs rs to from len d n m w down le sum lm a b =
    let xs = bytes_in ps in
    let whole = length_bytes_in ps w in
    let part = take len (drop from xs) in
    let size = length_part xs from len (omega arith) in
    let k : length (take d part) ≡ d = length-take-le d part (omega arith) in
    let above : drop (from + d) (bytes_in qs) ≡ drop (from + d) xs = ap (drop (from + d)) a.bytes ∙ above_replaced xs to (take d part) (from + d) (omega arith) (omega arith) in
    let piece : take n (drop (from + d) (bytes_in qs)) ≡ take n (drop d part) = ap (take n) above ∙ sym (piece_of xs from len d n (omega arith)) in
    let joined : take d part ++ take n (drop (from + d) (bytes_in qs)) ≡ take m part = ap (λ (v : List ℕ). take d part ++ v) piece ∙ sym (take-add d n part) ∙ ap (λ j. take j part) (sym sum) in
    subst (λ (v : List ℕ). Edits ps rs to v) joined (edits_more ps qs rs to (to + d) (take d part) (take n (drop (from + d) (bytes_in qs))) w (omega arith) (omega arith) a b)

pub copy_down_none : (ps : List Content) (to from len : ℕ) → IsPaged ps → Edits ps ps (to + len) (drop len (take len (drop from (bytes_in ps))))
copy_down_none ps to from len w =
    let n = length-take len (drop from (bytes_in ps)) in
    subst (λ (v : List ℕ). Edits ps ps (to + len) v) (sym (drop_all len (take len (drop from (bytes_in ps))) (omega arith))) (edits_none ps (to + len) w)

pub copy_down_turn : (ps qs rs : List Content) (to from len d n m : ℕ) → IsPaged ps → from ≤ to → to + len ≤ 65536 * length ps → d ≡ m + n → d ≤ len
    → Edits ps qs (to + d) (drop d (take len (drop from (bytes_in ps)))) → Edits qs rs (to + m) (take n (drop (from + m) (bytes_in qs))) → Edits ps rs (to + m) (drop m (take len (drop from (bytes_in ps))))
copy_down_turn ps qs rs to from len d n m w up le sum ld a b =
    let xs = bytes_in ps in
    let whole = length_bytes_in ps w in
    let part = take len (drop from xs) in
    let size = length_part xs from len (omega arith) in
    let below : take n (drop (from + m) (bytes_in qs)) ≡ take n (drop (from + m) xs) =
    ap (λ (v : List ℕ). take n (drop (from + m) v)) a.bytes ∙ below_replaced xs (to + d) (drop d part) (from + m) n (omega arith) (omega arith) in
    let piece : take n (drop (from + m) (bytes_in qs)) ≡ take n (drop m part) = below ∙ sym (piece_of xs from len m n (omega arith)) in
    let back : drop d part ≡ drop n (drop m part) = ap (λ j. drop j part) sum ∙ sym (drop-drop n m part) in
    let joined : take n (drop (from + m) (bytes_in qs)) ++ drop d part ≡ drop m part = ap (λ (v : List ℕ). v ++ drop d part) piece ∙ ap (λ (v : List ℕ). take n (drop m part) ++ v) back ∙ take-append-drop n (drop m part) in
    let len_m : length (drop m part) ≡ len - m = length-drop m part ∙ ap (λ j. j - m) size in
    let k : length (take n (drop (from + m) (bytes_in qs))) ≡ n = ap length piece ∙ length-take-le n (drop m part) (omega arith) in
    subst (λ (v : List ℕ). Edits ps rs (to + m) v) joined (edits_before ps qs rs (to + m) (to + d) (take n (drop (from + m) (bytes_in qs))) (drop d part) w (omega arith) (omega arith) a b)
