-- The partners of resources in pairs that follow one another.
use Rattle.std.proofs.Common.{◌≡◌, ◌∙◌, ap, sym, refl, ℕ, List, [], ◌∷◌, ◌++◌, Bool, true, false, Option, Some, None, cond, nat_eq, arith, append_assoc}
use Rattle.std.specs.Option.{option_or}
use Rattle.std.proofs.lemmas.Bool.Decides.{nat_tests}
use Rattle.comp_types.specs.Substitution.{partner_in, partner_of, and_pair, and_pair_to}
use Rattle.comp_types.proofs.PairLemmas.{partner-or, partner_or}
use Rattle.comp_link.specs.Linking.{own_bound}
use Rattle.instance_making.specs.Shown.{SamePartners}
use Rattle.instance_making.proofs.CoreLemmas.{or_if}

pub partner_of-append : (xs ys : List (ℕ × ℕ)) (r : ℕ) → partner_of (xs ++ ys) r ≡ option_or (partner_of xs r) (partner_of ys r)
partner_of-append [] ys r = refl
partner_of-append (x ∷ xs) ys r = ap (λ o. cond (nat_eq r x.0) (Some x.1) o) (partner_of-append xs ys r) ∙ or_if (nat_eq r x.0) x.1 (partner_of xs r) (partner_of ys r)

-- the same pairs after them
pub partners_append : (xs ys zs : List (ℕ × ℕ)) → SamePartners xs ys → SamePartners (xs ++ zs) (ys ++ zs)
partners_append xs ys zs h = λ r. partner_of-append xs zs r ∙ (ap (λ o. option_or o (partner_of zs r)) (h r) ∙ sym (partner_of-append ys zs r))

pub partners_nil : (xs : List (ℕ × ℕ)) → SamePartners xs (xs ++ [])
partners_nil [] = λ r. refl
partners_nil (x ∷ xs) = λ r. ap (λ o. cond (nat_eq r x.0) (Some x.1) o) (partners_nil xs r)

-- the first pairs of those that are left go after those that are there
pub partners_step : (next now one rest all : List (ℕ × ℕ)) → SamePartners next (now ++ one) → SamePartners (now ++ (one ++ rest)) all → SamePartners (next ++ rest) all
partners_step next now one rest all h k = λ r. partners_append next (now ++ one) rest h r ∙ (ap (λ xs. partner_of xs r) (append_assoc now one rest) ∙ k r)

-- none is left
pub partners_done : (now rest all : List (ℕ × ℕ)) → rest ≡ [] → SamePartners (now ++ rest) all → SamePartners now all
partners_done now rest all e h = λ r. partners_nil now r ∙ (ap (λ xs. partner_of (now ++ xs) r) (sym e) ∙ h r)

-- none comes
pub partners_none : (now by : List (ℕ × ℕ)) → by ≡ [] → SamePartners now (now ++ by)
partners_none now by e = λ r. partners_nil now r ∙ ap (λ xs. partner_of (now ++ xs) r) (sym e)

-- the partner, or else the resource
pub partners_in : (xs ys : List (ℕ × ℕ)) → SamePartners xs ys → (r : ℕ) → partner_in xs r ≡ partner_in ys r
partners_in xs ys h r = partner-or xs r ∙ (ap (partner_or r) (h r) ∙ sym (partner-or ys r))

same_number : (q r : ℕ) → nat_eq q r ≡ true → r ≡ q
same_number q r h = grind (arith, nat_tests)

or_none : (o : Option ℕ) → o ≡ option_or o None
or_none None = refl
or_none (Some x) = refl

has_one : (by : List (ℕ × ℕ)) (q r p x : ℕ) (b : Bool) → nat_eq q r ≡ b → partner_of by r ≡ Some x → partner_of by q ≡ option_or (partner_of by q) (cond b (Some p) None)
has_one by q r p x true e h = is ∙ ap (λ o. option_or o (Some p)) (sym is)
  where
    is : partner_of by q ≡ Some x
    is = ap (partner_of by) (sym (same_number q r e)) ∙ h
has_one by q r p x false e h = or_none (partner_of by q)

pair_to : (by : List (ℕ × ℕ)) (r p q : ℕ) (o : Option ℕ) → partner_of by r ≡ o → partner_of (and_pair_to by r p o) q ≡ partner_of (by ++ (r, p) ∷ []) q
pair_to by r p q None e = refl
pair_to by r p q (Some x) e = has_one by q r p x (nat_eq q r) refl e ∙ sym (partner_of-append by ((r, p) ∷ []) q)

-- one pair more
pub partners_pair : (by : List (ℕ × ℕ)) (r p : ℕ) → SamePartners (and_pair by r p) (by ++ (r, p) ∷ [])
partners_pair by r p = λ q. pair_to by r p q (partner_of by r) refl

-- the same partners give the same for own resources
pub own_same : (xs ys own : List (ℕ × ℕ)) → SamePartners xs ys → own_bound xs own ≡ own_bound ys own
own_same xs ys [] h = refl
own_same xs ys (pair ∷ own) h = λ i. (pair.1, partners_in xs ys h pair.0 i) ∷ own_same xs ys own h i
