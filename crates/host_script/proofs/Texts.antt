-- Texts that stand in a buffer: one more, and those after the first.
use Rattle.std.proofs.Common.{◌≡◌, ◌∙◌, ℕ, ◌+◌, ◌<◌, ◌≤◌, List, [], ◌∷◌, ◌++◌, length, get_or, take, drop, ap, ap₂, sym, arith}
use Rattle.std.proofs.lemmas.List.{length-append, length-drop, take_all, take-append-le, drop-append-le, drop-drop, drop_more, drop_all}
use Rattle.host_script.specs.Kept.{total, cut, texts_left, HasTexts}

-- ---- one more

cut_push : (ns bytes text : List ℕ) → total ns ≡ length bytes → cut (ns ++ length text ∷ []) (bytes ++ text) ≡ cut ns bytes ++ text ∷ []
cut_push [] [] text h = ap (λ t. t ∷ []) (take_all (length text) text (omega arith))
cut_push [] (b ∷ bytes) text h = absurd (omega arith)
cut_push (n ∷ ns) bytes text h =
    let within : n ≤ length bytes = omega arith in
    ap₂ (λ t ts. t ∷ ts) (take-append-le n bytes text within)
    (ap (cut (ns ++ length text ∷ [])) (drop-append-le n bytes text within) ∙ cut_push ns (drop n bytes) text (omega (arith, length-drop n bytes)))

total-append : (ms ns : List ℕ) → total (ms ++ ns) ≡ total ms + total ns
total-append [] ns = omega arith
total-append (m ∷ ms) ns = omega (arith, total-append ms ns)

pub left_push : (passed start : ℕ) (lengths bytes text : List ℕ) → HasTexts passed start lengths bytes
    → texts_left passed start (lengths ++ length text ∷ []) (bytes ++ text) ≡ texts_left passed start lengths bytes ++ text ∷ []
left_push passed start lengths bytes text has =
    ap₂ cut (drop-append-le passed lengths (length text ∷ []) has.within) (drop-append-le start bytes text (omega (arith, has.whole)))
    ∙ cut_push (drop passed lengths) (drop start bytes) text (omega (arith, has.whole, length-drop start bytes))

pub has_push : (passed start : ℕ) (lengths bytes text : List ℕ) → HasTexts passed start lengths bytes → HasTexts passed start (lengths ++ length text ∷ []) (bytes ++ text)
has_push passed start lengths bytes text has = record {
  within = omega (arith, has.within, length-append lengths (length text ∷ []));
  whole =
      let parts = ap total (drop-append-le passed lengths (length text ∷ []) has.within) in
      let sums : total (drop passed lengths ++ length text ∷ []) ≡ total (drop passed lengths) + (length text + 0) = total-append (drop passed lengths) (length text ∷ []) in
      omega (arith, has.whole, parts, sums, length-append bytes text);
}

-- ---- the first, and those after it

pub first_left : (passed start n : ℕ) (lengths bytes : List ℕ) → passed < length lengths → n ≡ get_or lengths passed n
    → texts_left passed start lengths bytes ≡ take n (drop start bytes) ∷ texts_left (passed + 1) (start + n) lengths bytes
first_left passed start n lengths bytes h is =
    ap (λ ns. cut ns (drop start bytes)) (drop_more lengths passed n h ∙ ap (λ m. m ∷ drop (passed + 1) lengths) (sym is))
    ∙ ap (λ rest. take n (drop start bytes) ∷ cut (drop (passed + 1) lengths) rest) (drop-drop n start bytes)

pub has_later : (passed start n : ℕ) (lengths bytes : List ℕ) → passed < length lengths → n ≡ get_or lengths passed n → HasTexts passed start lengths bytes
    → HasTexts (passed + 1) (start + n) lengths bytes
has_later passed start n lengths bytes h is has =
    let first : total (drop passed lengths) ≡ n + total (drop (passed + 1) lengths) = ap total (drop_more lengths passed n h ∙ ap (λ m. m ∷ drop (passed + 1) lengths) (sym is)) in
    record { within = omega arith; whole = omega (arith, has.whole, first) }

pub none_left : (passed start : ℕ) (lengths bytes : List ℕ) → length lengths ≤ passed → texts_left passed start lengths bytes ≡ []
none_left passed start lengths bytes h = ap (λ ns. cut ns (drop start bytes)) (drop_all passed lengths h)
