-- Tests of a call.
use Rattle.std.proofs.Common.{◌≡◌, ℕ, Bool, true, false, ◌&&◌, List, [], ◌∷◌, ◌++◌, refl}
use Rattle.host_port.specs.Hosts.{HostStep}
use Rattle.reference_step.specs.Steps.{is_none_given}

module _ {S : Type 0} (h : HostStep S) where
  pub none_first : (a b : List (ℕ × ℕ)) → is_none_given h a ≡ true → is_none_given h (a ++ b) ≡ is_none_given h b
  none_first [] b is = refl
  none_first (g ∷ gs) b is = cc

  pub some_first : (a b : List (ℕ × ℕ)) → is_none_given h a ≡ false → is_none_given h (a ++ b) ≡ false
  some_first [] b is = cc
  some_first (g ∷ gs) b is = refl

pub all_three : (a b c x y z : Bool) → a ≡ x → b ≡ y → c ≡ z → (a && (b && c)) ≡ (x && (y && z))
all_three a b c x y z p q r = rw (p, q, r) refl
