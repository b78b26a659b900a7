-- How values are lifted out of an instance, and begin to be stored in one.
use Rattle.std.specs.Prelude.{◌≡◌, ℕ, List, Option, Some, None, Result, Ok, Err}
use Rattle.wit_types.specs.Plain.{Plain}
use Rattle.wit_types.specs.PlainValue.{PlainValue}
use Rattle.abi_store.specs.Plan.{Plan}
use Rattle.comp_worlds.specs.Passing.{unlend_all}
use Rattle.comp_worlds.specs.Groups.{Config}
use Rattle.comp_worlds.specs.Locals.{Local, Args, done, with_map, close}
use Rattle.wit_types.specs.declared.value.Value.{Value}
use Rattle.instance_state.specs.Passed.{IsLiftedAs, IsLoweredAs}
use Rattle.call_moments.specs.declared.end.Stop.{Stop}
use Rattle.call_moments.specs.declared.end.Stop.TheVariants as stops

-- a value was lifted, or lifting traps, where the memory is there in which values lie
abbrev pub Lifts : (memory : Type 0) → Plain → Option (Local ℕ (Args ℕ)) → Config ℕ → (loans loans' : List ℕ) → Result Value Stop → Type 0
Lifts memory ty due new loans loans' (Ok value) = IsLiftedAs ty due new loans loans' value
Lifts memory ty due new loans loans' (Err stops.Trapped) = memory → due ≡ None
Lifts memory ty due new loans loans' (Err stops.ScriptEnded) = ⊥
Lifts memory ty due new loans loans' (Err stops.BadAnswer) = ⊥
Lifts memory ty due new loans loans' (Err stops.Spent) = ⊥
Lifts memory ty due new loans loans' (Err stops.TooDeep) = ⊥
Lifts memory ty due new loans loans' (Err stops.NoMemory) = Unit {0}

abbrev pub without_loans : List ℕ → Config ℕ → Config ℕ
without_loans loans c = with_map c (unlend_all loans c.map)

-- the handles of a value were added, and the instance was closed; the plan is that of the value with their indexes
abbrev pub BeginsToStore : Plain → PlainValue → (PlainValue → Plan) → Option (Local ℕ (List ℕ)) → Config ℕ → Plan → Type 0
BeginsToStore ty v due_plan due new plan = (added : Config ℕ) × IsLoweredAs ty v due_plan due added plan × (close added ≡ Some (done new))

-- the same, or the handles do not go into the table, where the loans of a call were lent
abbrev pub Stores : (lent : Type 0) → Plain → PlainValue → (PlainValue → Plan) → Option (Local ℕ (List ℕ)) → Config ℕ → Result Plan Stop → Type 0
Stores lent ty v due_plan due new (Ok plan) = BeginsToStore ty v due_plan due new plan
Stores lent ty v due_plan due new (Err stops.Trapped) = lent → due ≡ None
Stores lent ty v due_plan due new (Err stops.ScriptEnded) = ⊥
Stores lent ty v due_plan due new (Err stops.BadAnswer) = ⊥
Stores lent ty v due_plan due new (Err stops.Spent) = ⊥
Stores lent ty v due_plan due new (Err stops.TooDeep) = ⊥
Stores lent ty v due_plan due new (Err stops.NoMemory) = Unit {0}
