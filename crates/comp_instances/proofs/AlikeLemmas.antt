-- Pairs by which resources are found alike.
use Rattle.std.proofs.Common.{◌≡◌, ◌∙◌, ap, refl, sym, ℕ, List, [], ◌∷◌, ◌++◌, Bool, true, false, Option, Some, None, cond, nat_eq, append_assoc}
use mathlib.Core.Path.{fun_ext}
use Rattle.comp_types.specs.Items.{Entries}
use Rattle.comp_types.specs.Substitution.{partner_in, partner_of, and_pair, and_pair_to, entries_with}
use Rattle.comp_types.proofs.MeetLaws.{equal_number}
use Rattle.comp_types.proofs.PairLemmas.{partner-or, partner_or}
use Rattle.comp_types.specs.GivenResources.{renamed}
use Rattle.comp_instances.specs.Pairs.{FindAlike}

abbrev Pairs : Type 0
Pairs = List (ℕ × ℕ)

abbrev either : Option ℕ → Option ℕ → Option ℕ
either (Some x) p = Some x
either None p = p

found_or : (b : Bool) (v : ℕ) (o p : Option ℕ) → cond b (Some v) (either o p) ≡ either (cond b (Some v) o) p
found_or true v o p = refl
found_or false v o p = refl

found-append : (xs ys : Pairs) (r : ℕ) → partner_of (xs ++ ys) r ≡ either (partner_of xs r) (partner_of ys r)
found-append [] ys r = refl
found-append (p ∷ xs) ys r = ap (cond (nat_eq r p.0) (Some p.1)) (found-append xs ys r) ∙ found_or (nat_eq r p.0) p.1 (partner_of xs r) (partner_of ys r)

pub alike-same : (xs ys : Pairs) → xs ≡ ys → FindAlike xs ys
alike-same xs ys e = λ r. ap (λ ps. partner_of ps r) e

pub alike-then : (xs ys zs : Pairs) → FindAlike xs ys → FindAlike ys zs → FindAlike xs zs
alike-then xs ys zs h k = λ r. h r ∙ k r

-- more pairs after both
pub alike-append : (xs ys zs : Pairs) → FindAlike xs ys → FindAlike (xs ++ zs) (ys ++ zs)
alike-append xs ys zs h = λ r. found-append xs zs r ∙ (ap (λ o. either o (partner_of zs r)) (h r) ∙ sym (found-append ys zs r))

not_found : (by : Pairs) (r n q x : ℕ) (b : Bool) → partner_of by r ≡ Some x → nat_eq q r ≡ b → partner_of by q ≡ None → cond b (Some n) None ≡ None
not_found by r n q x true e is o = let same = ap (partner_of by) (equal_number q r is) in cc
not_found by r n q x false e is o = refl

kept_at : (by : Pairs) (r n q x : ℕ) (o : Option ℕ) → partner_of by r ≡ Some x → partner_of by q ≡ o → o ≡ either o (cond (nat_eq q r) (Some n) None)
kept_at by r n q x (Some y) e is = refl
kept_at by r n q x None e is = sym (not_found by r n q x (nat_eq q r) e refl is)

alike_at : (by : Pairs) (r n : ℕ) (o : Option ℕ) → partner_of by r ≡ o → FindAlike (and_pair_to by r n o) (by ++ (r, n) ∷ [])
alike_at by r n None e = λ q. refl
alike_at by r n (Some x) e = λ q. kept_at by r n q x (partner_of by q) e refl ∙ sym (found-append by ((r, n) ∷ []) q)

-- a pair of a resource that has one is not found
pub alike-pair : (by : Pairs) (r n : ℕ) → FindAlike (and_pair by r n) (by ++ (r, n) ∷ [])
alike-pair by r n = alike_at by r n (partner_of by r) refl

alike-partner : (xs ys : Pairs) → FindAlike xs ys → (r : ℕ) → partner_in xs r ≡ partner_in ys r
alike-partner xs ys h r = partner-or xs r ∙ (ap (partner_or r) (h r) ∙ sym (partner-or ys r))

pub alike-renamed : (xs ys : Pairs) (es : Entries) → FindAlike xs ys → entries_with (partner_in xs) es ≡ renamed ys es
alike-renamed xs ys es h = ap (λ f. entries_with f es) (fun_ext (alike-partner xs ys h))

-- what is added first goes from what is to come to what is there
pub alike_onward : (new by start first rest more : Pairs) → FindAlike new (by ++ first) → more ≡ first ++ rest → FindAlike (by ++ more) start → FindAlike (new ++ rest) start
alike_onward new by start first rest more h e k =
    alike-then (new ++ rest) ((by ++ first) ++ rest) start (alike-append new (by ++ first) rest h)
    (alike-then ((by ++ first) ++ rest) (by ++ more) start (alike-same ((by ++ first) ++ rest) (by ++ more) (append_assoc by first rest ∙ ap (λ ps. by ++ ps) (sym e))) k)
