-- Look-ups in pairs of resources.
use Rattle.std.proofs.Common.{◌≡◌, ◌∙◌, ap, refl, ℕ, List, [], ◌∷◌, Bool, true, false, Option, Some, None, cond, nat_eq, arith}
use Rattle.std.proofs.lemmas.Bool.Decides.{nat_tests}
use Rattle.comp_types.specs.Substitution.{partner_in, partner_of}

abbrev pub partner_or : ℕ → Option ℕ → ℕ
partner_or r None = r
partner_or r (Some x) = x

same-sides : (x y : ℕ) → nat_eq x y ≡ nat_eq y x
same-sides x y = grind (arith, nat_tests)

choice : (b : Bool) (r x : ℕ) (o : Option ℕ) → cond b x (partner_or r o) ≡ partner_or r (cond b (Some x) o)
choice true r x o = refl
choice false r x o = refl

-- the partner, or else the resource
pub partner-or : (by : List (ℕ × ℕ)) (r : ℕ) → partner_in by r ≡ partner_or r (partner_of by r)
partner-or [] r = refl
partner-or (p ∷ by) r =
    ap (λ b. cond b p.1 (partner_in by r)) (same-sides p.0 r)
    ∙ (ap (λ x. cond (nat_eq r p.0) p.1 x) (partner-or by r) ∙ choice (nat_eq r p.0) r p.1 (partner_of by r))
