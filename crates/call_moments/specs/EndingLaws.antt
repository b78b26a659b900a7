-- What becomes of loans as calls go on.
use Rattle.std.specs.Prelude.{ℕ, List, [], ◌∷◌, ◌++◌}
use Rattle.handle_space.specs.HandleMap.{HandleMap, empty}
use Rattle.comp_worlds.specs.Passing.{unlend_all}
use Rattle.instance_state.specs.declared.loan.Loan.{Loan}
use Rattle.instance_state.specs.Loans.{indexes_of, AreLent}
use Rattle.call_moments.specs.declared.frame.Frame.{Frame}
use Rattle.call_moments.specs.Lending.{IsLending}
use Rattle.call_moments.specs.Held.{loans_behind, Maps, with_map, AllLend}

-- a change of one instance's handles that leaves what is lent, by the laws of a single instance
abbrev pub LeavesLent : HandleMap ℕ → HandleMap ℕ → Type 0
LeavesLent m n = (lent : List Loan) → IsLending m lent → IsLending n lent

pub record LoansEndLastFirst : Type 0 where
  pub none : AllLend (λ k. empty) [] []
  -- core code begins for a call, and ends
  pub begins : (maps : Maps) (f : Frame) (fs : List Frame) → AllLend maps (loans_behind f.purpose) fs → AllLend maps [] (f ∷ fs)
  pub over : (maps : Maps) (f : Frame) (fs : List Frame) → AllLend maps [] (f ∷ fs) → AllLend maps (loans_behind f.purpose) fs
  -- handles of any instance are made, added or dropped
  pub changes : (maps : Maps) (loans : List Loan) (fs : List Frame) (k : ℕ) (m : HandleMap ℕ) → LeavesLent (maps k) m → AllLend maps loans fs → AllLend (with_map maps k m) loans fs
  -- the innermost code calls, and lends handles
  pub lends : (maps : Maps) (loans : List Loan) (f : Frame) (fs : List Frame) (m : HandleMap ℕ) → ((lent : List Loan) → IsLending (maps f.instance) lent → IsLending m (loans ++ lent)) → AllLend maps [] (f ∷ fs) → AllLend (with_map maps f.instance m) loans (f ∷ fs)
  -- its call is answered: each of its loans is lent as it ends
  pub ends : (maps : Maps) (loans : List Loan) (f : Frame) (fs : List Frame) → AllLend maps loans (f ∷ fs) → AreLent loans (maps f.instance) × AllLend (with_map maps f.instance (unlend_all (indexes_of loans) (maps f.instance))) [] (f ∷ fs)
