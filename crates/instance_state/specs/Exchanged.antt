-- What the exchange of a value's handles did.
use Rattle.std.specs.Prelude.{◌≡◌, ℕ, Bool, false, option_map, ◌++◌, List, [], ◌∷◌, Option, Some, None, Result, Ok, Err}
use Rattle.handle_space.specs.HandleMap.{HandleMap, Answered, Held, lend, take_own}
use Rattle.handle_space.specs.declared.table.AddFault.{AddFault}
use Rattle.handle_space.specs.declared.table.AddFault.TheVariants.{Full, NoMemory}
use Rattle.comp_worlds.specs.Passing.{Handle, Own, Borrow, Lifted, rep_in, reps_in, and_loan}
use Rattle.value_handles.specs.declared.handle.ValueHandle.{ValueHandle}
use Rattle.value_handles.specs.declared.handle.ValueHandle.TheVariants as values
use Rattle.instance_state.specs.declared.fault.HandleFault.{HandleFault}
use Rattle.instance_state.specs.declared.fault.HandleFault.TheVariants as faults

abbrev pub fault_of : AddFault → HandleFault
fault_of Full = faults.Trap
fault_of NoMemory = faults.NoMemory

-- a handle on its way, with the number for which it stands
abbrev pub passing : ValueHandle → Handle ℕ
passing (values.Own resource number) = Own resource number
passing (values.Borrow resource number) = Borrow resource number

-- The handles were taken or lent: after other numbers stands for what they stand, and after other loans which indexes were lent.
abbrev pub IsLifted : Option (Lifted ℕ) → HandleMap ℕ → (reps reps' loans loans' : List ℕ) → Type 0
IsLifted None m reps reps' loans loans' = ⊥
IsLifted (Some l) m reps reps' loans loans' = (l.map ≡ m) × (reps' ≡ reps ++ reps_in l.handles) × (loans' ≡ loans ++ l.loans)

abbrev pub Lifts : Option (Lifted ℕ) → HandleMap ℕ → (reps reps' loans loans' : List ℕ) → Result (Unit {0}) HandleFault → Type 0
Lifts due m reps reps' loans loans' (Ok done) = IsLifted due m reps reps' loans loans'
Lifts due m reps reps' loans loans' (Err faults.Trap) = due ≡ None
Lifts due m reps reps' loans loans' (Err faults.NoMemory) = Unit {0}

-- what is due of one handle: for what it stands, whether it is lent, and the map after it
pub record One : Type 0 where
  pub handle : Handle ℕ
  pub lent : Bool
  pub map : HandleMap ℕ

abbrev pub taken_one : ℕ → Answered ℕ ℕ → One
taken_one r a = record { handle = Own r a.answer; lent = false; map = a.map }

abbrev pub lent_one : ℕ → Answered ℕ (Held ℕ) → One
lent_one r a = record { handle = Borrow r a.answer.rep; lent = a.answer.owned; map = a.map }

abbrev pub one_due : ValueHandle → HandleMap ℕ → Option One
one_due (values.Own resource index) m = option_map (taken_one resource) (take_own m index resource)
one_due (values.Borrow resource index) m = option_map (lent_one resource) (lend m index resource)

abbrev pub IsOne : Option One → ℕ → HandleMap ℕ → (reps reps' loans loans' : List ℕ) → Type 0
IsOne None index m reps reps' loans loans' = ⊥
IsOne (Some o) index m reps reps' loans loans' = (o.map ≡ m) × (reps' ≡ reps ++ rep_in o.handle ∷ []) × (loans' ≡ loans ++ and_loan o.lent index [])

abbrev pub LiftsOne : Option One → ℕ → HandleMap ℕ → (reps reps' loans loans' : List ℕ) → Result (Unit {0}) HandleFault → Type 0
LiftsOne due index m reps reps' loans loans' (Ok done) = IsOne due index m reps reps' loans loans'
LiftsOne due index m reps reps' loans loans' (Err faults.Trap) = due ≡ None
LiftsOne due index m reps reps' loans loans' (Err faults.NoMemory) = Unit {0}

-- The handles were added: after other numbers stand their indexes.
abbrev pub IsLowered : Option (Answered ℕ (List ℕ)) → HandleMap ℕ → (indexes indexes' : List ℕ) → Type 0
IsLowered None m indexes indexes' = ⊥
IsLowered (Some a) m indexes indexes' = (a.map ≡ m) × (indexes' ≡ indexes ++ a.answer)

abbrev pub Lowers : Option (Answered ℕ (List ℕ)) → HandleMap ℕ → (indexes indexes' : List ℕ) → Result (Unit {0}) HandleFault → Type 0
Lowers due m indexes indexes' (Ok done) = IsLowered due m indexes indexes'
Lowers due m indexes indexes' (Err faults.Trap) = due ≡ None
Lowers due m indexes indexes' (Err faults.NoMemory) = Unit {0}
