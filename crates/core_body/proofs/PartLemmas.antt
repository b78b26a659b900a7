-- Parts of lists of operand types.
use Rattle.std.proofs.Common.{◌≡◌, ◌≤◌, ◌<◌, ◌+◌, ◌*◌, ◌-◌, ◌⊎◌, ℕ, zero, suc, refl, sym, ◌∙◌, ap, subst, Option, Some, None, List, [], ◌∷◌, ◌++◌, length, map, take, drop, get_or, slice_get, arith, inl, inr, length-drop}
use Rattle.std.proofs.lemmas.List.{take_more, take_all, length-take}
use Rattle.virt_base.specs.declared.core_type.CoreType.{CoreType}
use Rattle.wasm_ast.specs.declared.module.CoreFunc.{CoreFunc}
use Rattle.core_body.specs.declared.source.Source.{Source}
use Rattle.core_body.specs.declared.source.Source.TheVariants.{Nothing, Only, Params, Results}
use Rattle.core_body.specs.declared.parts.Level.{Level}
use Rattle.core_body.specs.declared.parts.Places.{Places}
use Rattle.core_body.specs.declared.parts.Parts.{Parts}
use Rattle.core_body.specs.Numbers.{letter}
use Rattle.core_body.specs.Sources.{params_in, results_in, listed_in}
use Rattle.core_body.specs.Parts.{OneName, FourNames, Follows, Same, IsLevel, AreLevels, Lies, LiesAt, Grows, AreLaid, params_place, results_place, place_in, IsBehind, Indexes, SameTypes}
use Rattle.core_body.proofs.NumberLemmas.{letter-injective}

below_or_not : (a b : ℕ) → (a < b) ⊎ (b ≤ a)
below_or_not zero zero = inr (omega arith)
below_or_not zero (suc b) = inl (omega arith)
below_or_not (suc a) zero = inr (omega arith)
below_or_not (suc a) (suc b) = elim (below_or_not a b) [ inl h ↦ inl (omega arith) | inr h ↦ inr (omega arith) ]

some-same : {A : Type 0} (a b : A) → Some a ≡ Some b → a ≡ b
some-same a b e = cc

-- items of lists by their places
module _ {A : Type 0} where
  get-front : (xs ys : List A) (i : ℕ) (x : A) → slice_get xs i ≡ Some x → slice_get (xs ++ ys) i ≡ Some x
  get-front [] ys i x e = cc
  get-front (y ∷ xs) ys zero x e = e
  get-front (y ∷ xs) ys (suc i) x e = get-front xs ys i x e

  get-back : (xs ys : List A) (i k : ℕ) → i ≡ length xs + k → slice_get (xs ++ ys) i ≡ slice_get ys k
  get-back [] ys i k e = let same : i ≡ k = omega arith in ap (slice_get ys) same
  get-back (x ∷ xs) ys zero k e = absurd (omega arith)
  get-back (x ∷ xs) ys (suc i) k e = get-back xs ys i k (omega arith)

  -- an item of a list with one more is an item before, or that one
  get-more : (xs : List A) (y : A) (i : ℕ) (x : A) → slice_get (xs ++ y ∷ []) i ≡ Some x → (slice_get xs i ≡ Some x) ⊎ ((i ≡ length xs) × (y ≡ x))
  get-more [] y zero x e = inr (refl, some-same y x e)
  get-more [] y (suc i) x e = cc
  get-more (z ∷ xs) y zero x e = inl e
  get-more (z ∷ xs) y (suc i) x e = elim (get-more xs y i x e) [ inl h ↦ inl h | inr h ↦ inr (ap suc h.0, h.1) ]

  get-drop : (n : ℕ) (xs : List A) (i j : ℕ) → j ≡ n + i → slice_get (drop n xs) i ≡ slice_get xs j
  get-drop zero xs i j e = let same : i ≡ j = omega arith in ap (slice_get xs) same
  get-drop (suc n) [] i j e = refl
  get-drop (suc n) (x ∷ xs) i zero e = absurd (omega arith)
  get-drop (suc n) (x ∷ xs) i (suc j) e = get-drop n xs i j (omega arith)

  get-some : (xs : List A) (i : ℕ) → i < length xs → (x : A) × (slice_get xs i ≡ Some x)
  get-some [] i h = absurd (omega arith)
  get-some (x ∷ xs) zero h = (x, refl)
  get-some (x ∷ xs) (suc i) h = get-some xs i (omega arith)

  -- lists with the same items are equal
  same-items : (xs ys : List A) → length xs ≡ length ys → ((k : ℕ) → k < length xs → slice_get xs k ≡ slice_get ys k) → xs ≡ ys
  same-items [] [] e h = refl
  same-items [] (y ∷ ys) e h = absurd (omega arith)
  same-items (x ∷ xs) [] e h = absurd (omega arith)
  same-items (x ∷ xs) (y ∷ ys) e h =
      let here = some-same x y (h 0 (omega arith)) in
      let there = same-items xs ys (omega arith) (λ k l. h (suc k) (omega arith)) in
      cc

get-letter : (ts : List CoreType) (k : ℕ) (t : CoreType) → slice_get ts k ≡ Some t → slice_get (map letter ts) k ≡ Some (letter t)
get-letter [] k t e = cc
get-letter (u ∷ ts) zero t e = ap (λ v. Some (letter v)) (some-same u t e)
get-letter (u ∷ ts) (suc k) t e = get-letter ts k t e

pub levels-more : (text : List ℕ) (levels : List Level) (l : Level) → AreLevels text levels → IsLevel text l.size l.names.items → AreLevels text (levels ++ l ∷ [])
levels-more text levels l before here n m e =
    elim (get-more levels l n m e) [
      | inl h ↦ before n m h
      | inr h ↦ subst (λ (x : Level). IsLevel text x.size x.names.items) h.1 here
    ]

get-at : {A : Type 0} (xs : List A) (i : ℕ) (x : A) → i < length xs → x ≡ get_or xs i x → slice_get xs i ≡ Some x
get-at [] i x h e = absurd (omega arith)
get-at (y ∷ xs) zero x h e = ap (λ z. Some z) (sym e)
get-at (y ∷ xs) (suc i) x h e = get-at xs i x (omega arith) e

pub level-at : (text : List ℕ) (levels : List Level) (n : ℕ) (l : Level) → n < length levels → l ≡ get_or levels n l → AreLevels text levels → IsLevel text l.size l.names.items
level-at text levels n l h e all = all n l (get-at levels n l h e)

-- from two places on, where the rest begins alike too
same-on : (text : List ℕ) (i j a b : ℕ) → Same text i j a → Same text (a + i) (a + j) b → Same text i j (a + b)
same-on text i j a b first more k h =
    elim (below_or_not k a) [
      | inl l ↦ first k l
      | inr l ↦
          let here : i + k ≡ (a + i) + (k - a) = omega arith in
          let there : (a + j) + (k - a) ≡ j + k = omega arith in
          ap (slice_get text) here ∙ more (k - a) (omega arith) ∙ ap (slice_get text) there
    ]

same-sym : (text : List ℕ) (i j n : ℕ) → Same text i j n → Same text j i n
same-sym text i j n h k l = sym (h k l)

same-trans : (text : List ℕ) (i j m n : ℕ) → Same text i j n → Same text j m n → Same text i m n
same-trans text i j m n f g k l = f k l ∙ g k l

-- a name that two lists have after that many has stood there before
name-behind : (names : List ℕ) (a b i j : ℕ) → OneName (drop a names) (drop b names) i j → OneName names names (a + i) (b + j)
name-behind names a b i j (n, e, f) = (n, sym (get-drop a names i (a + i) refl) ∙ e, sym (get-drop b names j (b + j) refl) ∙ f)

name-on : (names rest : List ℕ) (s i j : ℕ) → rest ≡ drop s names → OneName rest rest i j → OneName names names (s + i) (s + j)
name-on names rest s i j is h = name-behind names s s i j (subst (λ r. OneName r r i j) is h)

module _ (text : List ℕ) (size : ℕ) (ws xs ys zs new : List ℕ) (level : IsLevel text size ws)
    (second : xs ≡ drop size ws) (third : ys ≡ drop size xs) (fourth : zs ≡ drop size ys) where
  four-same : (i j : ℕ) → FourNames ws xs ys zs i j → Same text i j (size + (size + (size + size)))
  four-same i j h =
      let s = size in
      let b = name-on ws xs s i j second h.1 in
      let c = name-on ws xs s (s + i) (s + j) second (name-on xs ys s i j third h.2) in
      let d = name-on ws xs s (s + (s + i)) (s + (s + j)) second (name-on xs ys s (s + i) (s + j) third (name-on ys zs s i j fourth h.3)) in
      same-on text i j s (s + (s + s)) (level i j h.0)
      (same-on text (s + i) (s + j) s (s + s) (level (s + i) (s + j) b)
      (same-on text (s + (s + i)) (s + (s + j)) s s (level (s + (s + i)) (s + (s + j)) c) (level (s + (s + (s + i))) (s + (s + (s + j))) d)))

  -- names that follow those of a level are one, of parts four times as large
  pub next-level : Follows ws xs ys zs new → IsLevel text (4 * size) new
  next-level follows i j (p, e, f) =
      let four : size + (size + (size + size)) ≡ 4 * size = omega arith in
      let n = size + (size + (size + size)) in
      subst (Same text i j) four
      (same-trans text i p j n (same-sym text p i n (four-same p i (follows i p e))) (four-same p j (follows j p f)))

pub follows-more : (ws xs ys zs new : List ℕ) (p : ℕ) → Follows ws xs ys zs new → FourNames ws xs ys zs p (length new) → Follows ws xs ys zs (new ++ p ∷ [])
follows-more ws xs ys zs new p before here i q e =
    elim (get-more new p i q e) [
      | inl h ↦ before i q h
      | inr h ↦ subst (λ n. FourNames ws xs ys zs q n) (sym h.0) (subst (λ n. FourNames ws xs ys zs n (length new)) h.1 here)
    ]

-- what is put after the text lies there, and the rest stays
pub lies-behind : (text : List ℕ) (types : List CoreType) → Lies (text ++ map letter types) (length text) types
lies-behind text types k t e = get-back text (map letter types) (length text + k) k refl ∙ get-letter types k t e

pub grows-behind : (text more : List ℕ) → Grows text (text ++ more)
grows-behind text more i n e = get-front text more i n e

lies-still : (old new : List ℕ) (at : Option ℕ) (types : List CoreType) → Grows old new → LiesAt old at types → LiesAt new at types
lies-still old new None types g h = tt
lies-still old new (Some at) types g h = λ k t e. g (at + k) (letter t) (h k t e)

laid-still : (old new : List ℕ) (fs : List CoreFunc) (ps : List Places) → Grows old new → AreLaid old fs ps → AreLaid new fs ps
laid-still old new [] [] g h = h
laid-still old new [] (p ∷ ps) g h = h
laid-still old new (f ∷ fs) [] g h = h
laid-still old new (f ∷ fs) (p ∷ ps) g h = (lies-still old new p.params f.params g h.0, lies-still old new p.results f.results g h.1, laid-still old new fs ps g h.2)

laid-more : (text : List ℕ) (fs : List CoreFunc) (ps : List Places) (f : CoreFunc) (p : Places) → AreLaid text fs ps → LiesAt text p.params f.params → LiesAt text p.results f.results → AreLaid text (fs ++ f ∷ []) (ps ++ p ∷ [])
laid-more text [] [] f p h a b = (a, b, tt)
laid-more text [] (q ∷ ps) f p h a b = absurd h
laid-more text (g ∷ fs) [] f p h a b = absurd h
laid-more text (g ∷ fs) (q ∷ ps) f p h a b = (h.0, h.1, laid-more text fs ps f p h.2 a b)

pub laid-step : (old middle new : List ℕ) (fs : List CoreFunc) (ps : List Places) (i : ℕ) (f : CoreFunc) (p r : Option ℕ) → i < length fs → f ≡ get_or fs i f →
    AreLaid old (take i fs) ps → LiesAt middle p f.params → Grows old middle → LiesAt new r f.results → Grows middle new →
    AreLaid new (take (i + 1) fs) (ps ++ record { params = p; results = r } ∷ [])
laid-step old middle new fs ps i f p r h e have a g b k =
    let is : take (i + 1) fs ≡ take i fs ++ f ∷ [] = take_more fs i f h ∙ ap (λ x. take i fs ++ x ∷ []) (sym e) in
    subst (λ l. AreLaid new l (ps ++ record { params = p; results = r } ∷ [])) (sym is)
    (laid-more new (take i fs) ps f (record { params = p; results = r })
    (laid-still middle new (take i fs) ps k (laid-still old middle (take i fs) ps g have))
    (lies-still middle new p f.params k a) b)

pub all-laid : (text : List ℕ) (fs : List CoreFunc) (ps : List Places) (i : ℕ) → length fs ≤ i → AreLaid text (take i fs) ps → AreLaid text fs ps
all-laid text fs ps i h have = subst (λ l. AreLaid text l ps) (take_all i fs h) have

params-lie : (text : List ℕ) (fs : List CoreFunc) (ps : List Places) (i : ℕ) → AreLaid text fs ps → LiesAt text (params_place (slice_get ps i)) (params_in (slice_get fs i))
params-lie text [] [] i h = tt
params-lie text [] (p ∷ ps) i h = absurd h
params-lie text (f ∷ fs) [] i h = absurd h
params-lie text (f ∷ fs) (p ∷ ps) zero h = h.0
params-lie text (f ∷ fs) (p ∷ ps) (suc i) h = params-lie text fs ps i h.2

results-lie : (text : List ℕ) (fs : List CoreFunc) (ps : List Places) (i : ℕ) → AreLaid text fs ps → LiesAt text (results_place (slice_get ps i)) (results_in (slice_get fs i))
results-lie text [] [] i h = tt
results-lie text [] (p ∷ ps) i h = absurd h
results-lie text (f ∷ fs) [] i h = absurd h
results-lie text (f ∷ fs) (p ∷ ps) zero h = h.1
results-lie text (f ∷ fs) (p ∷ ps) (suc i) h = results-lie text fs ps i h.2

named-lies : (text : List ℕ) (fs : List CoreFunc) (ps : List Places) (s : Source) → AreLaid text fs ps → LiesAt text (place_in ps s) (listed_in fs s)
named-lies text fs ps Nothing h = tt
named-lies text fs ps (Only t) h = tt
named-lies text fs ps (Params n) h = params-lie text fs ps n h
named-lies text fs ps (Results n) h = results-lie text fs ps n h

lies-there : (text : List ℕ) (fs : List CoreFunc) (ps : List Places) (s : Source) (at : ℕ) → AreLaid text fs ps → place_in ps s ≡ Some at → Lies text at (listed_in fs s)
lies-there text fs ps s at h e = subst (λ (o : Option ℕ). LiesAt text o (listed_in fs s)) e (named-lies text fs ps s h)

-- the same text is of the same types
letters-tell : (text : List ℕ) (p q i j len : ℕ) (xs ys : List CoreType) → Lies text p xs → Lies text q ys → i + len ≤ length xs → j + len ≤ length ys → Same text (p + i) (q + j) len → SameTypes xs i ys j len
letters-tell text p q i j len xs ys f g h l same k below =
    let x = get-some xs (i + k) (omega arith) in
    let y = get-some ys (j + k) (omega arith) in
    let here : p + (i + k) ≡ (p + i) + k = omega arith in
    let there : (q + j) + k ≡ q + (j + k) = omega arith in
    let one : Some (letter x.0) ≡ Some (letter y.0) =
    sym (f (i + k) x.0 x.1) ∙ ap (slice_get text) here ∙ same k below ∙ ap (slice_get text) there ∙ g (j + k) y.0 y.1 in
    x.1 ∙ ap (λ t. Some t) (letter-injective x.0 y.0 (some-same (letter x.0) (letter y.0) one)) ∙ sym y.1

pub slices-tell : (fs : List CoreFunc) (parts : Parts) (a b : Source) (from_a from_b i j len : ℕ) → IsBehind (place_in parts.places.items a) from_a i → IsBehind (place_in parts.places.items b) from_b j →
    ((text : List ℕ) → AreLevels text parts.levels.items → Same text i j len) → Indexes fs parts →
    from_a + len ≤ length (listed_in fs a) → from_b + len ≤ length (listed_in fs b) → SameTypes (listed_in fs a) from_a (listed_in fs b) from_b len
slices-tell fs parts a b from_a from_b i j len (p, e, h) (q, f, l) same (text, levels, laid) la lb =
    letters-tell text p q from_a from_b len (listed_in fs a) (listed_in fs b)
    (lies-there text fs parts.places.items a p laid e) (lies-there text fs parts.places.items b q laid f) la lb
    (subst (λ n. Same text n (q + from_b) len) h (subst (λ n. Same text i n len) l (same text levels)))

-- names from two places of a level on
pub same-more : (text names left right : List ℕ) (size i j at done next : ℕ) → IsLevel text size names → left ≡ drop i names → right ≡ drop j names → OneName left right at at →
    at ≤ done → next ≡ at + size → Same text i j done → Same text i j next
same-more text names left right size i j at done next level l r name low is before k h =
    elim (below_or_not k done) [
      | inl b ↦ before k b
      | inr b ↦
          let one = name-behind names i j at at (subst (λ x. OneName (drop i names) x at at) r (subst (λ x. OneName x right at at) l name)) in
          let here : i + k ≡ (i + at) + (k - at) = omega arith in
          let there : (j + at) + (k - at) ≡ j + k = omega arith in
          ap (slice_get text) here ∙ level (i + at) (j + at) one (k - at) (omega arith) ∙ ap (slice_get text) there
    ]

-- slices of fronts
get-take : {A : Type 0} (n : ℕ) (xs : List A) (i : ℕ) → i < length (take n xs) → slice_get (take n xs) i ≡ slice_get xs i
get-take zero xs i h = absurd (omega arith)
get-take (suc n) [] i h = refl
get-take (suc n) (x ∷ xs) zero h = refl
get-take (suc n) (x ∷ xs) (suc i) h = get-take n xs i (omega arith)

within : {A : Type 0} (xs : List A) (i : ℕ) (x : A) → slice_get xs i ≡ Some x → i < length xs
within [] i x e = cc
within (y ∷ xs) zero x e = omega arith
within (y ∷ xs) (suc i) x e = let less = within xs i x e in omega arith

-- where the letters of a list stand it lies
pub lies-there-too : (text word : List ℕ) (at : ℕ) (types : List CoreType) → word ≡ map letter types → take (length word) (drop at text) ≡ word → Lies text at types
lies-there-too text word at types is there k t e =
    let here : slice_get word k ≡ Some (letter t) = ap (λ w. slice_get w k) is ∙ get-letter types k t e in
    let less : k < length word = within word k (letter t) here in
    let whole : length (take (length word) (drop at text)) ≡ length word = ap length there in
    sym (get-drop at text k (at + k) refl) ∙ sym (get-take (length word) (drop at text) k (omega arith)) ∙ ap (λ w. slice_get w k) there ∙ here

-- slices of fronts are equal where the lists have the same items there
pub slices-equal : (xs ys : List CoreType) (m n i j len : ℕ) (first second : List CoreType) → first ≡ drop i (take m xs) → second ≡ drop j (take n ys) → length first ≡ length second → len ≡ length first → 0 < len →
    (i + len ≤ length xs → j + len ≤ length ys → SameTypes xs i ys j len) → first ≡ second
slices-equal xs ys m n i j len first second e f even is some same =
    let a : length first ≡ length (take m xs) - i = ap length e ∙ length-drop i (take m xs) in
    let b : length second ≡ length (take n ys) - j = ap length f ∙ length-drop j (take n ys) in
    let c = length-take m xs in
    let d = length-take n ys in
    let alike = same (omega arith) (omega arith) in
    same-items first second even (λ k h.
    ap (λ l. slice_get l k) e ∙ get-drop i (take m xs) k (i + k) refl ∙ get-take m xs (i + k) (omega arith) ∙ alike k (omega arith)
    ∙ sym (ap (λ l. slice_get l k) f ∙ get-drop j (take n ys) k (j + k) refl ∙ get-take n ys (j + k) (omega arith)))
