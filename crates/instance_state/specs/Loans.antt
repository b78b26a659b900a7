-- Handles that are lent for a call.
use Rattle.std.specs.Prelude.{ℕ, ◌<◌, List, [], ◌∷◌, map, IsSomeAnd}
use Rattle.handle_space.specs.HandleMap.{HandleMap, entry_of, unlend}
use Rattle.instance_state.specs.declared.loan.Loan.{Loan}

abbrev pub indexes_of : List Loan → List ℕ
indexes_of loans = map (λ (l : Loan). l.index) loans

-- a handle of the loan's resource is at its index, and is lent
abbrev pub IsLentAs : HandleMap ℕ → Loan → Type 0
IsLentAs m l = IsSomeAnd (entry_of m l.index l.resource) (λ e. 0 < e.lent)

-- each of them is lent when its loan ends, one after the other
abbrev pub AreLent : List Loan → HandleMap ℕ → Type 0
AreLent [] m = Unit {0}
AreLent (l ∷ ls) m = IsLentAs m l × AreLent ls (unlend m l.index)
