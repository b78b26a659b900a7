-- Labels that are joined are found again, since no byte of a text is the one between them.
use Rattle.std.proofs.Common.{◌≡◌, ◌∙◌, refl, sym, ap, subst, ℕ, ◌+◌, ◌-◌, ◌<◌, ◌≤◌, List, [], ◌∷◌, ◌++◌, Bool, true, false, length, take, drop, cond, arith, append-nil, ltb-true, inl, inr}
use Rattle.std.specs.Prelude.{IsUtf8, Some, None, ◌==◌, nat_lt, position}
use Rattle.std.specs.List.{position_or_len, slice_split, onto_first}
use Rattle.std.proofs.lemmas.Bool.{and_parts}
use Rattle.std.proofs.lemmas.Bool.Decides.{nat_tests}
use Rattle.std.proofs.lemmas.Grind.{common_steps}
use Rattle.std.proofs.lemmas.List.Splits.{slice_split-cons_no}
use lib.Utf8.{scalar, scalars, scalar_cases, encode, encodes}
use Rattle.wasm_ast.specs.JoinedLabels.{labels_in, AreTexts, behind}

-- ---- the bytes of a text

abbrev AreLow : List ℕ → Type 0
AreLow [] = Unit {0}
AreLow (b ∷ bs) = (b < 255) × AreLow bs

low_append : (xs ys : List ℕ) → AreLow xs → AreLow ys → AreLow (xs ++ ys)
low_append [] ys h k = k
low_append (x ∷ xs) ys h k = (h.0, low_append xs ys h.1 k)

low_either : (b : Bool) (xs ys : List ℕ) → (b ≡ true → AreLow xs) → (b ≡ false → AreLow ys) → AreLow (cond b xs ys)
low_either true xs ys h k = h refl
low_either false xs ys h k = k refl

below_all : (c : ℕ) → scalar c ≡ true → c < 1114112
below_all c e = elim (scalar_cases c e) [ inl low ↦ omega arith | inr high ↦ high.1 ]

low_encode : (c : ℕ) → scalar c ≡ true → AreLow (encode c)
unfolding encode
low_encode c e =
    let all = below_all c e in
    low_either (nat_lt c 128) _ _ (λ h. let below = ltb-true _ _ h in (omega arith, tt)) (λ _.
    low_either (nat_lt c 2048) _ _ (λ h. let below = ltb-true _ _ h in (omega arith, (omega arith, tt))) (λ _.
    low_either (nat_lt c 65536) _ _ (λ h. let below = ltb-true _ _ h in (omega arith, (omega arith, (omega arith, tt)))) (λ _.
    (omega arith, (omega arith, (omega arith, (omega arith, tt)))))))

low_chars : (cs : List ℕ) → scalars cs ≡ true → AreLow (encodes cs)
low_chars [] e = tt
low_chars (c ∷ cs) e = let p = and_parts _ _ e in low_append (encode c) (encodes cs) (low_encode c p.0) (low_chars cs p.1)

low_text : (bs : List ℕ) → IsUtf8 bs → AreLow bs
low_text bs u = subst AreLow u.1.1 (low_chars u.0 u.1.0)

-- ---- labels that are joined

not_between : (b : ℕ) → b < 255 → (b == 255) ≡ false
not_between b h = grind (arith, nat_tests)

one_label : (label : List ℕ) → AreLow label → labels_in label ≡ label ∷ []
one_label [] h = refl
one_label (b ∷ label) h = slice_split-cons_no (λ b. b == 255) b label (not_between b h.0) ∙ ap (onto_first b) (one_label label h.1)

first_label : (label more : List ℕ) → AreLow label → labels_in (label ++ 255 ∷ more) ≡ label ∷ labels_in more
first_label [] more h = refl
first_label (b ∷ label) more h = slice_split-cons_no (λ b. b == 255) b (label ++ 255 ∷ more) (not_between b h.0) ∙ ap (onto_first b) (first_label label more h.1)

pub labels_joined : (first : List ℕ) (more : List (List ℕ)) → IsUtf8 first → AreTexts more → labels_in (first ++ behind more) ≡ first ∷ more
labels_joined first [] u t = ap labels_in (append-nil first) ∙ one_label first (low_text first u)
labels_joined first (label ∷ more) u t = first_label first (label ++ behind more) (low_text first u) ∙ ap (λ ls. first ∷ ls) (labels_joined label more t.0 t.1)

pub texts_joined : (bytes first : List ℕ) (more : List (List ℕ)) → bytes ≡ first ++ behind more → IsUtf8 first → AreTexts more → AreTexts (labels_in bytes)
texts_joined bytes first more e u t = subst AreTexts (sym (ap labels_in e ∙ labels_joined first more u t)) (u, t)

-- all labels have been put after the first
pub all_put : (bytes whole first : List ℕ) (rest more : List (List ℕ)) → whole ≡ bytes → length rest ≡ 0
    → (bytes ++ behind rest ≡ first ++ behind more) × (AreTexts rest → AreTexts more) → (whole ≡ first ++ behind more) × AreTexts more
all_put bytes whole first [] more same none h = (same ∙ (sym (append-nil bytes) ∙ h.0), h.1 tt)
all_put bytes whole first (label ∷ rest) more same none h = absurd (omega (arith, none))

-- ---- the first label, as it is found

parts_split : (rest : List ℕ) → position_or_len (λ b. b == 255) rest < length rest
    → labels_in rest ≡ take (position_or_len (λ b. b == 255) rest) rest ∷ labels_in (drop (position_or_len (λ b. b == 255) rest + 1) rest)
parts_split [] h = absurd (omega arith)
parts_split (x ∷ rest) h = grind (arith, nat_tests, parts_split rest)

parts_whole : (rest : List ℕ) → length rest ≤ position_or_len (λ b. b == 255) rest → labels_in rest ≡ rest ∷ []
parts_whole [] h = refl
parts_whole (x ∷ rest) h = grind (arith, nat_tests, parts_whole rest)

found_at : (b : Bool) (n i : ℕ) → cond b (Some n) None ≡ Some i → (b ≡ true) × (n ≡ i)
found_at true n i h = (refl, cc)
found_at false n i h = absurd (cc)

not_found : (b : Bool) (n : ℕ) → cond b (Some n) None ≡ None → b ≡ false
not_found true n h = absurd (cc)
not_found false n h = refl

pub label_ends : (rest : List ℕ) (i : ℕ) → position (λ b. b == 255) rest ≡ Some i → labels_in rest ≡ take i rest ∷ labels_in (drop (i + 1) rest)
label_ends rest i h =
    let found = found_at (nat_lt (position_or_len (λ b. b == 255) rest) (length rest)) (position_or_len (λ b. b == 255) rest) i h in
    let below : position_or_len (λ b. b == 255) rest < length rest = grind (arith, nat_tests, found.0) in
    parts_split rest below ∙ ap (λ k. take k rest ∷ labels_in (drop (k + 1) rest)) found.1

pub last_label : (rest : List ℕ) → position (λ b. b == 255) rest ≡ None → labels_in rest ≡ rest ∷ []
last_label rest h =
    let none = not_found (nat_lt (position_or_len (λ b. b == 255) rest) (length rest)) (position_or_len (λ b. b == 255) rest) h in
    let all : length rest ≤ position_or_len (λ b. b == 255) rest = grind (arith, nat_tests, none) in
    parts_whole rest all

pub all_behind : (xs : List ℕ) (k : ℕ) → take (length xs - k) (drop k xs) ≡ drop k xs
all_behind xs k = grind (arith, common_steps)
