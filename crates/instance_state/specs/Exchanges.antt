-- What the exchange of a value's handles leaves.
use Rattle.std.specs.Prelude.{◌≡◌, ℕ, List, ◌++◌, Option, Some, None, Result, Ok, Err}
use Rattle.wit_types.specs.Plain.{Plain}
use Rattle.wit_types.specs.PlainValue.{PlainValue, plain_value}
use Rattle.wit_types.specs.declared.value.Value.{Value}
use Rattle.abi_layout.specs.Handles.{renumbered}
use Rattle.handle_space.specs.HandleMap.{HandleMap, Answered}
use Rattle.comp_worlds.specs.Passing.{Lifted, blank, reps_in}
use Rattle.comp_worlds.specs.Hosts.{passed_by}
use Rattle.instance_state.specs.declared.fault.HandleFault.{HandleFault}
use Rattle.instance_state.specs.declared.fault.HandleFault.TheVariants.{Trap, NoMemory}

-- the value that passes, with its handles by that for which they stand
abbrev pub IsOut : Plain → PlainValue → Option (Lifted ℕ) → HandleMap ℕ → (loans loans' : List ℕ) → Value → Type 0
IsOut ty v None m loans loans' out = ⊥
IsOut ty v (Some l) m loans loans' out = (passed_by ty (plain_value out) ≡ record { value = blank ty v; reps = reps_in l.handles }) × (l.map ≡ m) × (loans' ≡ loans ++ l.loans)

abbrev pub GoesOut : Plain → PlainValue → Option (Lifted ℕ) → HandleMap ℕ → (loans loans' : List ℕ) → Result Value HandleFault → Type 0
GoesOut ty v due m loans loans' (Ok out) = IsOut ty v due m loans loans' out
GoesOut ty v due m loans loans' (Err Trap) = due ≡ None
GoesOut ty v due m loans loans' (Err NoMemory) = Unit {0}

-- the value with the indexes of its handles
abbrev pub IsIn : Plain → PlainValue → Option (Answered ℕ (List ℕ)) → HandleMap ℕ → Value → Type 0
IsIn ty v None m into = ⊥
IsIn ty v (Some a) m into = (plain_value into ≡ renumbered ty (blank ty v) a.answer) × (a.map ≡ m)

abbrev pub GoesIn : Plain → PlainValue → Option (Answered ℕ (List ℕ)) → HandleMap ℕ → Result Value HandleFault → Type 0
GoesIn ty v due m (Ok into) = IsIn ty v due m into
GoesIn ty v due m (Err Trap) = due ≡ None
GoesIn ty v due m (Err NoMemory) = Unit {0}
