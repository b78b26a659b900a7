-- Counts of calls, of which some are to fail.
use Rattle.std.proofs.Common.{◌≡◌, ℕ, ◌≤◌, List, [], ◌∷◌, Bool, true, false, arith, refl, nat_lt}
use Rattle.std.specs.Prelude.{◌==◌}
use Rattle.std.specs.List.{list_all, list_any}
use Rattle.std.proofs.lemmas.Bool.Decides.{nat_tests}
use Rattle.outside.specs.Fault.{one_more, Rose}
use Rattle.outside.specs.Failing.{Calls, is_listed, is_steady, after}

none_due : (xs : List ℕ) (n : ℕ) → list_all (λ k. nat_lt k n) xs ≡ true → list_any (λ k. k == n) xs ≡ false
none_due [] n h = refl
none_due (x ∷ xs) n h = grind (arith, nat_tests, none_due xs n)

still_below : (xs : List ℕ) (n m : ℕ) → list_all (λ k. nat_lt k n) xs ≡ true → n ≤ m → list_all (λ k. nat_lt k m) xs ≡ true
still_below [] n m h le = refl
still_below (x ∷ xs) n m h le = grind (arith, nat_tests, still_below xs n m)

pub not_listed : (c : Calls) → is_steady c ≡ true → is_listed c ≡ false
not_listed c h = none_due c.failing c.next h

pub still_steady : (c : Calls) (failed : Bool) → is_steady c ≡ true → is_steady (after c failed) ≡ true
still_steady c failed h = still_below c.failing c.next (one_more c.next) h (omega arith)

pub never_falls : (c : Calls) (failed : Bool) → c.faults ≤ (after c failed).faults
never_falls c true = omega arith
never_falls c false = omega arith

-- the count rose where a call failed
pub rose : (c : Calls) → Rose c.faults (after c true).faults
rose c = omega arith

pub Rose-later : (a b c : ℕ) → Rose a b → b ≤ c → Rose a c
Rose-later a b c r le = omega (arith, r)

pub Rose-before : (a b c : ℕ) → a ≤ b → Rose b c → Rose a c
Rose-before a b c le r = omega (arith, r)
