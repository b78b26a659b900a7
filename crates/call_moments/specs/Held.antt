-- The loans of calls in progress. A call lends handles of the instance that called, which is that of the frame outside. Frames are given
-- innermost first.
use Rattle.std.specs.Prelude.{◌==◌, ◌++◌, ℕ, List, [], ◌∷◌, Bool, true, false}
use Rattle.handle_space.specs.HandleMap.{HandleMap}
use Rattle.comp_worlds.specs.Calls.{pick}
use Rattle.instance_state.specs.declared.loan.Loan.{Loan}
use Rattle.call_moments.specs.declared.frame.Caller.{Caller}
use Rattle.call_moments.specs.declared.frame.Caller.TheVariants as callers
use Rattle.call_moments.specs.declared.frame.Stored.{Stored}
use Rattle.call_moments.specs.declared.frame.Stored.TheVariants as stored
use Rattle.call_moments.specs.declared.frame.Purpose.{Purpose}
use Rattle.call_moments.specs.declared.frame.Purpose.TheVariants as purposes
use Rattle.call_moments.specs.declared.frame.Frame.{Frame}
use Rattle.call_moments.specs.Lending.{IsLending}

abbrev pub loans_by : Caller → List Loan
loans_by callers.Outside = []
loans_by (callers.Inside call) = call.loans.items

abbrev pub loans_next : Stored → List Loan
loans_next (stored.Params service) = loans_by service.caller
loans_next (stored.Result due) = []

-- those of the call for which core code runs
abbrev pub loans_behind : Purpose → List Loan
loans_behind purposes.Starts = []
loans_behind (purposes.Serves service) = loans_by service.caller
loans_behind (purposes.Grants storing) = loans_next storing.then
loans_behind (purposes.Returns back) = []
loans_behind (purposes.Destroys visit) = []

abbrev pub loans_if : Bool → List Loan → List Loan
loans_if true loans = loans
loans_if false loans = []

-- the loans of an instance's handles, where the innermost code calls with these loans
abbrev pub held : List Loan → List Frame → ℕ → List Loan
held loans [] k = []
held loans (f ∷ fs) k = loans_if (f.instance == k) loans ++ held (loans_behind f.purpose) fs k

-- the handles of each instance
abbrev pub Maps : Type 0
Maps = ℕ → HandleMap ℕ

abbrev pub with_map : Maps → ℕ → HandleMap ℕ → Maps
with_map maps k m j = pick (j == k) m (maps j)

-- each loan's handle is there and is lent
abbrev pub AllLend : Maps → List Loan → List Frame → Type 0
AllLend maps loans fs = (k : ℕ) → IsLending (maps k) (held loans fs k)
