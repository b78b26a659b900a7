-- Numbers of lists of operand types.
use Rattle.std.proofs.Common.{◌≡◌, ◌≤◌, ◌<◌, ◌+◌, ◌⊎◌, ℕ, zero, suc, refl, sym, ◌∙◌, ap, subst, Option, Some, None, List, [], ◌∷◌, ◌++◌, Bool, true, false, cond, length, map, take, get_or, slice_get, arith, inl, inr, ⊎_elim, Vec}
use Rattle.std.specs.declared.alloc.Global.{Global}
use Rattle.std.specs.BTreeMap.{BTreeMap, btree_map_len, IsEmpty, UpdatesBy}
use Rattle.std.specs.Map.{lookup, IsKeyTest, AreApart as ApartTests, KeepsOthers}
use Rattle.std.specs.Cmp.{eq_by_cmp_equiv}
use Rattle.std.specs.Cmp.Lexicographic.{slice_cmp, bytes_decides, nat_list_cmp_total, nat_list_eq_equiv}
use Rattle.std.specs.Ordering.{is_eq, nat_cmp}
use Rattle.std.specs.Str.{bytes_eq}
use Rattle.std.proofs.lemmas.List.{take_more, take_all}
use Rattle.std.proofs.lemmas.Map.Text.{is_eq-slice_cmp}
use Rattle.std.proofs.lemmas.Bool.{cases_Bool, cond-true, cond-false}
use Rattle.virt_base.specs.declared.core_type.CoreType.{CoreType}
use Rattle.virt_base.specs.declared.core_type.CoreType.TheVariants.{I32, I64, Funcref, Externref}
use Rattle.wasm_ast.specs.declared.module.CoreFunc.{CoreFunc}
use Rattle.core_body.specs.declared.source.Source.{Source}
use Rattle.core_body.specs.declared.source.Source.TheVariants.{Nothing, Only, Params, Results}
use Rattle.core_body.specs.declared.numbers.ListNumbers.{ListNumbers}
use Rattle.core_body.specs.Sources.{params_in, results_in, listed_in}
use Rattle.core_body.specs.Numbers.{letter, params_number, results_number, number_in, Distinguish, number_of, numbered, AreApart, Keeps, Adds, HaveNumbers}

pub letter-injective : (a b : CoreType) → letter a ≡ letter b → a ≡ b
letter-injective I32 I32 e = refl
letter-injective I32 I64 e = cc
letter-injective I32 Funcref e = cc
letter-injective I32 Externref e = cc
letter-injective I64 I32 e = cc
letter-injective I64 I64 e = refl
letter-injective I64 Funcref e = cc
letter-injective I64 Externref e = cc
letter-injective Funcref I32 e = cc
letter-injective Funcref I64 e = cc
letter-injective Funcref Funcref e = refl
letter-injective Funcref Externref e = cc
letter-injective Externref I32 e = cc
letter-injective Externref I64 e = cc
letter-injective Externref Funcref e = cc
letter-injective Externref Externref e = refl

letter-low : (t : CoreType) → letter t < 4
letter-low I32 = omega arith
letter-low I64 = omega arith
letter-low Funcref = omega arith
letter-low Externref = omega arith

letters-injective : (a b : List CoreType) → map letter a ≡ map letter b → a ≡ b
letters-injective [] [] e = refl
letters-injective [] (y ∷ b) e = cc
letters-injective (x ∷ a) [] e = cc
letters-injective (x ∷ a) (y ∷ b) e =
    let first : letter x ≡ letter y = cc in
    let more : map letter a ≡ map letter b = cc in
    let here = letter-injective x y first in
    let there = letters-injective a b more in
    cc

-- what a change at a word leaves at each
apart_in_order : (bs cs ks : List ℕ) → bytes_eq bs cs ≡ false → is_eq (slice_cmp nat_cmp bs ks) ≡ true → is_eq (slice_cmp nat_cmp cs ks) ≡ false
apart_in_order bs cs ks n y =
    is_eq-slice_cmp cs ks ∙ nat_list_eq_equiv.symm cs ks ∙ sym (nat_list_eq_equiv.congr bs ks cs (sym (is_eq-slice_cmp bs ks) ∙ y)) ∙ n

module _ {K : Type 0} (eq : K → K → Bool) (test : K → Bool) where
  other_entries : {X : Type 0} (old new : List (K × X)) → KeepsOthers eq test old new → (other : K → Bool) → IsKeyTest eq other → ApartTests test other → lookup other new ≡ lookup other old
  unfolding KeepsOthers
  other_entries old new h = h

pub word_updates : (bs : List ℕ) (m n : BTreeMap (Vec ℕ Global) ℕ) (w : Option ℕ) → UpdatesBy (λ x y. slice_cmp nat_cmp x.items y.items) (λ k. slice_cmp nat_cmp bs k.items) m n w →
    (cs : List ℕ) → number_of n cs ≡ cond (bytes_eq bs cs) w (number_of m cs)
word_updates bs m n w h cs =
    ⊎_elim
    (λ y. subst (λ l. number_of n l ≡ w) ((bytes_decides bs cs).0 y) h.1 ∙ sym (cond-true (bytes_eq bs cs) w (number_of m cs) y))
    (λ e. other_entries _ _ _ _ h.3 _ (λ x y. (eq_by_cmp_equiv nat_list_cmp_total).congr cs x.items y.items) (λ k. apart_in_order bs cs k.items e) ∙ sym (cond-false (bytes_eq bs cs) w (number_of m cs) e))
    (cases_Bool (bytes_eq bs cs))

some-injective : (a b : ℕ) → Some a ≡ Some b → a ≡ b
some-injective a b e = cc

-- one more word, with a number that none has yet
module _ (old new : BTreeMap (Vec ℕ Global) ℕ) (word : List ℕ) (number : ℕ) (apart : AreApart old) (none : number_of old word ≡ None)
    (next : number ≡ btree_map_len old + 5) (longer : btree_map_len new ≡ btree_map_len old + 1)
    (after : (cs : List ℕ) → number_of new cs ≡ cond (bytes_eq word cs) (Some number) (number_of old cs)) where
  either : (w : List ℕ) (n : ℕ) → number_of new w ≡ Some n → ((word ≡ w) × (number ≡ n)) ⊎ (number_of old w ≡ Some n)
  either w n h = go (bytes_eq word w) refl (sym (after w) ∙ h)
    where
      go : (b : Bool) → bytes_eq word w ≡ b → cond b (Some number) (number_of old w) ≡ Some n → ((word ≡ w) × (number ≡ n)) ⊎ (number_of old w ≡ Some n)
      go true e h = inl ((bytes_decides word w).0 e, some-injective number n h)
      go false e h = inr h

  one : (v w : List ℕ) (n : ℕ) → number_of new v ≡ Some n → number_of new w ≡ Some n → v ≡ w
  one v w n f g = go (either v n f) (either w n g)
    where
      go : ((word ≡ v) × (number ≡ n)) ⊎ (number_of old v ≡ Some n) → ((word ≡ w) × (number ≡ n)) ⊎ (number_of old w ≡ Some n) → v ≡ w
      go (inl a) (inl b) = sym a.0 ∙ b.0
      go (inl a) (inr b) = absurd (omega (arith, a.1, apart.high w n b))
      go (inr a) (inl b) = absurd (omega (arith, b.1, apart.high v n a))
      go (inr a) (inr b) = apart.one v w n a b

  low : (w : List ℕ) (n : ℕ) → number_of new w ≡ Some n → 5 ≤ n
  low w n f = go (either w n f)
    where
      go : ((word ≡ w) × (number ≡ n)) ⊎ (number_of old w ≡ Some n) → 5 ≤ n
      go (inl a) = omega (arith, a.1)
      go (inr a) = apart.low w n a

  high : (w : List ℕ) (n : ℕ) → number_of new w ≡ Some n → n < btree_map_len new + 5
  high w n f = go (either w n f)
    where
      go : ((word ≡ w) × (number ≡ n)) ⊎ (number_of old w ≡ Some n) → n < btree_map_len new + 5
      go (inl a) = omega (arith, a.1)
      go (inr a) = omega (arith, apart.high w n a)

  keeps : Keeps old new
  keeps w n h = go (bytes_eq word w) refl (after w)
    where
      go : (b : Bool) → bytes_eq word w ≡ b → number_of new w ≡ cond b (Some number) (number_of old w) → number_of new w ≡ Some n
      go true e f = let never : None ≡ Some n = sym none ∙ ap (number_of old) ((bytes_decides word w).0 e) ∙ h in cc
      go false e f = f ∙ h

  here : number_of new word ≡ Some number
  here = after word ∙ cond-true (bytes_eq word word) (Some number) (number_of old word) ((bytes_decides word word).1 refl)

  pub adds-new : Adds old new (number_of new word) number
  adds-new = record { apart = record { one = one; low = low; high = high }; keeps = keeps; found = here }

pub adds-nothing : (known : BTreeMap (Vec ℕ Global) ℕ) (n : Option ℕ) (number : ℕ) → AreApart known → n ≡ Some number → Adds known known n number
adds-nothing known n number apart found = record { apart = apart; keeps = λ w k h. h; found = found }

pub apart-none : (known : BTreeMap (Vec ℕ Global) ℕ) → IsEmpty known → AreApart known
apart-none known empty = record { one = λ v w n f g. never v n f; low = λ w n f. never w n f; high = λ w n f. never w n f }
  where
    never : {A : Type 0} (w : List ℕ) (n : ℕ) → number_of known w ≡ Some n → A
    never w n f = let none : None ≡ Some n = sym (ap (lookup _) empty) ∙ f in cc

keeps-list : (old new : BTreeMap (Vec ℕ Global) ℕ) → Keeps old new → (ts : List CoreType) (n : ℕ) → numbered old ts ≡ Some n → numbered new ts ≡ Some n
keeps-list old new k [] n h = h
keeps-list old new k (t ∷ []) n h = h
keeps-list old new k (t ∷ u ∷ ts) n h = k (map letter (t ∷ u ∷ ts)) n h

keeps-types : (old new : BTreeMap (Vec ℕ Global) ℕ) → Keeps old new → (fs : List CoreFunc) (ns : List ListNumbers) → HaveNumbers old fs ns → HaveNumbers new fs ns
keeps-types old new k [] [] h = h
keeps-types old new k [] (n ∷ ns) h = h
keeps-types old new k (f ∷ fs) [] h = h
keeps-types old new k (f ∷ fs) (n ∷ ns) h = (keeps-list old new k f.params n.params h.0, keeps-list old new k f.results n.results h.1, keeps-types old new k fs ns h.2)

one-more : (known : BTreeMap (Vec ℕ Global) ℕ) (fs : List CoreFunc) (ns : List ListNumbers) (f : CoreFunc) (n : ListNumbers) → HaveNumbers known fs ns →
    numbered known f.params ≡ Some n.params → numbered known f.results ≡ Some n.results → HaveNumbers known (fs ++ f ∷ []) (ns ++ n ∷ [])
one-more known [] [] f n h a b = (a, b, tt)
one-more known [] (m ∷ ns) f n h a b = absurd h
one-more known (g ∷ fs) [] f n h a b = absurd h
one-more known (g ∷ fs) (m ∷ ns) f n h a b = (h.0, h.1, one-more known fs ns f n h.2 a b)

-- a type more
types-more : (old middle new : BTreeMap (Vec ℕ Global) ℕ) (fs : List CoreFunc) (ns : List ListNumbers) (f : CoreFunc) (p r : ℕ) → HaveNumbers old fs ns →
    Adds old middle (numbered middle f.params) p → Adds middle new (numbered new f.results) r → HaveNumbers new (fs ++ f ∷ []) (ns ++ record { params = p; results = r } ∷ [])
types-more old middle new fs ns f p r h a b =
    one-more new fs ns f (record { params = p; results = r }) (keeps-types middle new b.keeps fs ns (keeps-types old middle a.keeps fs ns h))
    (keeps-list middle new b.keeps f.params p a.found) b.found

-- the list and the number of each name
params-found : (known : BTreeMap (Vec ℕ Global) ℕ) (fs : List CoreFunc) (ns : List ListNumbers) (i : ℕ) → HaveNumbers known fs ns → numbered known (params_in (slice_get fs i)) ≡ Some (params_number (slice_get ns i))
params-found known [] [] i h = refl
params-found known [] (n ∷ ns) i h = absurd h
params-found known (f ∷ fs) [] i h = absurd h
params-found known (f ∷ fs) (n ∷ ns) zero h = h.0
params-found known (f ∷ fs) (n ∷ ns) (suc i) h = params-found known fs ns i h.2

results-found : (known : BTreeMap (Vec ℕ Global) ℕ) (fs : List CoreFunc) (ns : List ListNumbers) (i : ℕ) → HaveNumbers known fs ns → numbered known (results_in (slice_get fs i)) ≡ Some (results_number (slice_get ns i))
results-found known [] [] i h = refl
results-found known [] (n ∷ ns) i h = absurd h
results-found known (f ∷ fs) [] i h = absurd h
results-found known (f ∷ fs) (n ∷ ns) zero h = h.1
results-found known (f ∷ fs) (n ∷ ns) (suc i) h = results-found known fs ns i h.2

name-found : (known : BTreeMap (Vec ℕ Global) ℕ) (fs : List CoreFunc) (ns : List ListNumbers) (s : Source) → HaveNumbers known fs ns → numbered known (listed_in fs s) ≡ Some (number_in ns s)
name-found known fs ns Nothing h = refl
name-found known fs ns (Only t) h = refl
name-found known fs ns (Params n) h = params-found known fs ns n h
name-found known fs ns (Results n) h = results-found known fs ns n h

-- lists of one number are equal
one-list : (known : BTreeMap (Vec ℕ Global) ℕ) → AreApart known → (a b : List CoreType) (n : ℕ) → numbered known a ≡ Some n → numbered known b ≡ Some n → a ≡ b
one-list known apart [] [] n f g = refl
one-list known apart [] (u ∷ []) n f g = absurd (omega (arith, some-injective 0 n f, some-injective (letter u + 1) n g))
one-list known apart [] (u ∷ v ∷ b) n f g = absurd (omega (arith, some-injective 0 n f, apart.low (map letter (u ∷ v ∷ b)) n g))
one-list known apart (t ∷ []) [] n f g = absurd (omega (arith, some-injective (letter t + 1) n f, some-injective 0 n g))
one-list known apart (t ∷ []) (u ∷ []) n f g = ap (λ x. x ∷ []) (letter-injective t u (omega (arith, some-injective (letter t + 1) n f, some-injective (letter u + 1) n g)))
one-list known apart (t ∷ []) (u ∷ v ∷ b) n f g = absurd (omega (arith, some-injective (letter t + 1) n f, letter-low t, apart.low (map letter (u ∷ v ∷ b)) n g))
one-list known apart (s ∷ t ∷ a) [] n f g = absurd (omega (arith, some-injective 0 n g, apart.low (map letter (s ∷ t ∷ a)) n f))
one-list known apart (s ∷ t ∷ a) (u ∷ []) n f g = absurd (omega (arith, some-injective (letter u + 1) n g, letter-low u, apart.low (map letter (s ∷ t ∷ a)) n f))
one-list known apart (s ∷ t ∷ a) (u ∷ v ∷ b) n f g = letters-injective (s ∷ t ∷ a) (u ∷ v ∷ b) (apart.one (map letter (s ∷ t ∷ a)) (map letter (u ∷ v ∷ b)) n f g)

distinguishes : (known : BTreeMap (Vec ℕ Global) ℕ) (fs : List CoreFunc) (ns : List ListNumbers) → AreApart known → HaveNumbers known fs ns → Distinguish fs ns
distinguishes known fs ns apart h a b =
    let first = name-found known fs ns a h in
    let second = name-found known fs ns b h in (
      λ e. one-list known apart (listed_in fs a) (listed_in fs b) (number_in ns b) (first ∙ ap (λ n. Some n) e) second,
      λ e. some-injective (number_in ns a) (number_in ns b) (sym first ∙ ap (numbered known) e ∙ second),
    )

pub types-step : (old middle new : BTreeMap (Vec ℕ Global) ℕ) (fs : List CoreFunc) (ns : List ListNumbers) (i : ℕ) (f : CoreFunc) (p r : ℕ) → i < length fs → f ≡ get_or fs i f →
    HaveNumbers old (take i fs) ns → Adds old middle (numbered middle f.params) p → Adds middle new (numbered new f.results) r →
    HaveNumbers new (take (i + 1) fs) (ns ++ record { params = p; results = r } ∷ [])
types-step old middle new fs ns i f p r h e have a b =
    let is : take (i + 1) fs ≡ take i fs ++ f ∷ [] = take_more fs i f h ∙ ap (λ g. take i fs ++ g ∷ []) (sym e) in
    subst (λ l. HaveNumbers new l (ns ++ record { params = p; results = r } ∷ [])) (sym is) (types-more old middle new (take i fs) ns f p r have a b)

pub all-distinguished : (known : BTreeMap (Vec ℕ Global) ℕ) (fs : List CoreFunc) (ns : List ListNumbers) (i : ℕ) → length fs ≤ i → AreApart known → HaveNumbers known (take i fs) ns → Distinguish fs ns
all-distinguished known fs ns i h apart have = distinguishes known fs ns apart (subst (λ l. HaveNumbers known l ns) (take_all i fs h) have)
