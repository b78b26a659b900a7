-- Handles that are lent to calls in progress.
use Rattle.std.specs.Prelude.{◌≡◌, ◌≤◌, ◌==◌, ℕ, List, [], ◌∷◌, Option, Some, None, slice_get, count_by, IsSomeAnd}
use Rattle.std.specs.List.{All, Contains}
use Rattle.handle_space.specs.HandleMap.{Entry, HandleMap, entry_of}
use Rattle.instance_state.specs.declared.loan.Loan.{Loan}

-- an index that was freed has no handle, and was freed once
abbrev pub AreFree : List (Option (Entry ℕ)) → List ℕ → Type 0
AreFree entries [] = Unit {0}
AreFree entries (i ∷ is) = (slice_get entries i ≡ Some None) × (Contains is i → ⊥) × AreFree entries is

-- how many of the loans are of the handle at an index
abbrev pub loans_at : ℕ → List Loan → ℕ
loans_at i held = count_by (λ (l : Loan). l.index == i) held

-- the handle of a loan is there, and is lent for each of the loans of it
abbrev pub IsLentFor : HandleMap ℕ → List Loan → Loan → Type 0
IsLentFor m held l = IsSomeAnd (entry_of m l.index l.resource) (λ e. loans_at l.index held ≤ e.lent)

-- The handles of an instance while these loans last, which are those of all its calls in progress, the innermost call's first.
pub record IsLending (m : HandleMap ℕ) (held : List Loan) : Type 0 where
  pub free : AreFree m.entries m.freed
  pub lent : All (IsLentFor m held) held
