-- What holds of resources that are each there once holds of all of them.
use Rattle.std.proofs.Common.{◌≡◌, ◌∙◌, ap, refl, sym, subst, ℕ, List, [], ◌∷◌, ◌++◌, Bool, true, false, Option, Some, None, cond, nat_eq}
use Rattle.std.specs.Prelude.{◌||◌, ◌&&◌, ◌==◌}
use Rattle.std.specs.List.{list_all}
use Rattle.std.proofs.lemmas.Bool.{false≢true}
use Rattle.std.proofs.lemmas.Bool.Decides.{Decides-eqb}
use Rattle.std.proofs.lemmas.List.Elements.{All-nil, All-cons, All-head, All-tail, All-append}
use Rattle.comp_types.specs.Subtyping.{Takes}
use Rattle.comp_types.specs.Substitution.{partner_of, and_pair, and_pair_to}
use Rattle.comp_types.proofs.MeetLaws.{equal_number}
use Rattle.comp_types.specs.GivenResources.{is_among, distinct}
use Rattle.comp_types.specs.Rules.{as_they_are}
use Rattle.type_relations.proofs.OnceLemmas.{each-of_none, each-among}
use Rattle.comp_instances.specs.Takes.{TakesAlike}

pub among-distinct : (xs : List ℕ) (r : ℕ) → is_among (distinct xs) r ≡ is_among xs r
among-distinct xs r = ap (λ ys. is_among ys r) (sym (each-of_none xs)) ∙ each-among [] xs r

or_true : (b : Bool) → (b || true) ≡ true
or_true true = refl
or_true false = refl

itself : (x : ℕ) (xs : List ℕ) → is_among (x ∷ xs) x ≡ true
itself x xs = ap (λ b. b || is_among xs x) ((Decides-eqb x x).1 refl)

later : (x r : ℕ) (xs : List ℕ) → is_among xs r ≡ true → is_among (x ∷ xs) r ≡ true
later x r xs h = ap (λ b. (x == r) || b) h ∙ or_true (x == r)

among_either : (P : ℕ → Type 0) (x r : ℕ) (a b : Bool) → (x == r) ≡ a → P x → (b ≡ true → P r) → (a || b) ≡ true → P r
among_either P x r true b e p f h = subst P ((Decides-eqb x r).0 e) p
among_either P x r false b e p f h = f h

-- ---- tests

both : (a b : Bool) → (a && b) ≡ true → (a ≡ true) × (b ≡ true)
both true b h = (refl, h)
both false b h = absurd (false≢true h)

and : (a b : Bool) → a ≡ true → b ≡ true → (a && b) ≡ true
and true b e h = h
and false b e h = e

all_when : (p : ℕ → Bool) (xs : List ℕ) → ((r : ℕ) → is_among xs r ≡ true → p r ≡ true) → list_all p xs ≡ true
all_when p [] f = refl
all_when p (x ∷ xs) f = and (p x) (list_all p xs) (f x (itself x xs)) (all_when p xs (λ r h. f r (later x r xs h)))

each_when : (p : ℕ → Bool) (xs : List ℕ) → list_all p xs ≡ true → (r : ℕ) → is_among xs r ≡ true → p r ≡ true
each_when p [] h r k = absurd (false≢true k)
each_when p (x ∷ xs) h r k =
    let e = both (p x) (list_all p xs) h in among_either (λ y. p y ≡ true) x r (x == r) (is_among xs r) refl e.0 (λ i. each_when p xs e.1 r i) k

turned : (a b : Bool) → (a ≡ true → b ≡ true) → (b ≡ true → a ≡ true) → a ≡ b
turned true b f g = sym (f refl)
turned false true f g = g refl
turned false false f g = refl

pub all-distinct : (p : ℕ → Bool) (xs : List ℕ) → list_all p (distinct xs) ≡ list_all p xs
all-distinct p xs = turned (list_all p (distinct xs)) (list_all p xs)
    (λ h. all_when p xs (λ r k. each_when p (distinct xs) h r (among-distinct xs r ∙ k)))
    (λ h. all_when p (distinct xs) (λ r k. each_when p xs h r (sym (among-distinct xs r) ∙ k)))

-- ---- partners

module _ (partner : ℕ → ℕ) where
  abbrev Met : ℕ × ℕ → Type 0
  Met p = partner p.0 ≡ p.1

  takes_when : (xs : List ℕ) → ((r : ℕ) → is_among xs r ≡ true → partner r ≡ r) → Takes partner (as_they_are xs)
  takes_when [] f = All-nil Met
  takes_when (x ∷ xs) f = All-cons Met (x, x) (as_they_are xs) (f x (itself x xs)) (takes_when xs (λ r h. f r (later x r xs h)))

  takes_each : (xs : List ℕ) → Takes partner (as_they_are xs) → (r : ℕ) → is_among xs r ≡ true → partner r ≡ r
  takes_each [] h r k = absurd (false≢true k)
  takes_each (x ∷ xs) h r k =
      among_either (λ y. partner y ≡ y) x r (x == r) (is_among xs r) refl (All-head Met (x, x) (as_they_are xs) h) (λ i. takes_each xs (All-tail Met (x, x) (as_they_are xs) h) r i) k

  distinct_onward : (xs : List ℕ) → Takes partner (as_they_are (distinct xs)) → Takes partner (as_they_are xs)
  distinct_onward xs h = takes_when xs (λ r k. takes_each (distinct xs) h r (among-distinct xs r ∙ k))

  distinct_back : (xs : List ℕ) → Takes partner (as_they_are xs) → Takes partner (as_they_are (distinct xs))
  distinct_back xs h = takes_when (distinct xs) (λ r k. takes_each xs h r (sym (among-distinct xs r) ∙ k))

  split : (xs ys : List (ℕ × ℕ)) → Takes partner (xs ++ ys) → Takes partner xs × Takes partner ys
  split [] ys h = (All-nil Met, h)
  split (x ∷ xs) ys h =
      let rest = split xs ys (All-tail Met x (xs ++ ys) h) in (All-cons Met x xs (All-head Met x (xs ++ ys) h) rest.0, rest.1)

  met_first : (r : ℕ) (b : Bool) (p : ℕ × ℕ) (o : Option ℕ) (z : ℕ) → nat_eq r p.0 ≡ b → Met p → (o ≡ Some z → partner r ≡ z) → cond b (Some p.1) o ≡ Some z → partner r ≡ z
  met_first r true p o z e m f h = let same : p.1 ≡ z = cc in ap partner (equal_number r p.0 e) ∙ (m ∙ same)
  met_first r false p o z e m f h = f h

  takes_found : (by : List (ℕ × ℕ)) (r z : ℕ) → Takes partner by → partner_of by r ≡ Some z → partner r ≡ z
  takes_found [] r z t h = cc
  takes_found (p ∷ by) r z t h = met_first r (nat_eq r p.0) p (partner_of by r) z refl (All-head Met p by t) (takes_found by r z (All-tail Met p by t)) h

pub distinct_alike : (xs : List ℕ) → TakesAlike (as_they_are (distinct xs)) (as_they_are xs)
distinct_alike xs = record { onward = λ partner h. distinct_onward partner xs h; back = λ partner h. distinct_back partner xs h }

pub alike_then : (a b c : List (ℕ × ℕ)) → TakesAlike a b → TakesAlike b c → TakesAlike a c
alike_then a b c h k = record { onward = λ partner t. k.onward partner (h.onward partner t); back = λ partner t. h.back partner (k.back partner t) }

-- ---- one pair more, of a resource and itself

abbrev pub AreSame : List (ℕ × ℕ) → Type 0
AreSame by = (y x : ℕ) → partner_of by y ≡ Some x → x ≡ y

same_last : (b : Bool) (q r x : ℕ) → nat_eq q r ≡ b → cond b (Some r) None ≡ Some x → x ≡ q
same_last true q r x e h = let e2 : q ≡ r = equal_number q r e in cc
same_last false q r x e h = cc

same_step : (b : Bool) (v q x : ℕ) (o p : Option ℕ) → (cond b (Some v) o ≡ Some x → x ≡ q) → ((o ≡ Some x → x ≡ q) → p ≡ Some x → x ≡ q) → (b ≡ false → o ≡ Some x → x ≡ q) → cond b (Some v) p ≡ Some x → x ≡ q
same_step true v q x o p f g k h = f h
same_step false v q x o p f g k h = g f h

more_same : (by : List (ℕ × ℕ)) (r q x : ℕ) → (partner_of by q ≡ Some x → x ≡ q) → partner_of (by ++ (r, r) ∷ []) q ≡ Some x → x ≡ q
more_same [] r q x f h = same_last (nat_eq q r) q r x refl h
more_same (p ∷ by) r q x f h =
    same_step (nat_eq q p.0) p.1 q x (partner_of by q) (partner_of (by ++ (r, r) ∷ []) q) f (λ g. more_same by r q x g) (λ e g. f (ap (λ b. cond b (Some p.1) (partner_of by q)) e ∙ g)) h

pair_same : (by : List (ℕ × ℕ)) (r : ℕ) (o : Option ℕ) → AreSame by → AreSame (and_pair_to by r r o)
pair_same by r None s = λ y x h. more_same by r y x (s y x) h
pair_same by r (Some z) s = s

pub same-pair : (by : List (ℕ × ℕ)) (r : ℕ) → AreSame by → AreSame (and_pair by r r)
same-pair by r s = pair_same by r (partner_of by r) s

pair_onward : (partner : ℕ → ℕ) (by : List (ℕ × ℕ)) (r : ℕ) (o : Option ℕ) → partner_of by r ≡ o → AreSame by → Takes partner (and_pair_to by r r o) → Takes partner by × (partner r ≡ r)
pair_onward partner by r None e s t = let k = split partner by ((r, r) ∷ []) t in (k.0, All-head (λ (p : ℕ × ℕ). partner p.0 ≡ p.1) (r, r) [] k.1)
pair_onward partner by r (Some z) e s t = (t, takes_found partner by r z t e ∙ s r z e)

pub takes_pair : (partner : ℕ → ℕ) (by : List (ℕ × ℕ)) (r : ℕ) → AreSame by → Takes partner (and_pair by r r) → Takes partner by × (partner r ≡ r)
takes_pair partner by r s t = pair_onward partner by r (partner_of by r) refl s t

pair_back : (partner : ℕ → ℕ) (by : List (ℕ × ℕ)) (r : ℕ) (o : Option ℕ) → Takes partner by → partner r ≡ r → Takes partner (and_pair_to by r r o)
pair_back partner by r None t e =
    All-append (λ (p : ℕ × ℕ). partner p.0 ≡ p.1) by ((r, r) ∷ []) t (All-cons (λ (p : ℕ × ℕ). partner p.0 ≡ p.1) (r, r) [] e (All-nil (λ (p : ℕ × ℕ). partner p.0 ≡ p.1)))
pair_back partner by r (Some z) t e = t

pub gives_pair : (partner : ℕ → ℕ) (by : List (ℕ × ℕ)) (r : ℕ) → Takes partner by → partner r ≡ r → Takes partner (and_pair by r r)
gives_pair partner by r t e = pair_back partner by r (partner_of by r) t e
