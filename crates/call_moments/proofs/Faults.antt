-- How the faults of an instance end a run.
use Rattle.std.proofs.Common.{◌≡◌, ℕ, List, Option, Ok, Err, sym, subst}
use Rattle.std.specs.Prelude.{Result, IsErrAnd}
use Rattle.wit_types.specs.Plain.{Plain}
use Rattle.wit_types.specs.PlainValue.{PlainValue}
use Rattle.wit_types.specs.declared.value.Value.{Value}
use Rattle.abi_store.specs.Plan.{Plan}
use Rattle.comp_worlds.specs.Groups.{Config}
use Rattle.comp_worlds.specs.Locals.{Local, Args}
use Rattle.instance_state.specs.declared.fault.HandleFault.{HandleFault}
use Rattle.instance_state.specs.declared.fault.HandleFault.TheVariants.{Trap, NoMemory}
use Rattle.instance_state.specs.Passed.{LiftsAs, LowersAs}
use Rattle.call_moments.specs.declared.end.Stop.{Stop}
use Rattle.call_moments.specs.Stops.{stop_of_handles}
use Rattle.call_moments.specs.Stores.{Lifts, Stores}

pub lift_stops : (memory : Type 0) (ty : Plain) (due : Option (Local ℕ (Args ℕ))) (new : Config ℕ) (loans loans' : List ℕ) (fault : HandleFault) → LiftsAs ty due new loans loans' (Err fault) → Lifts memory ty due new loans loans' (Err (stop_of_handles fault))
lift_stops memory ty due new loans loans' Trap h = λ m. h
lift_stops memory ty due new loans loans' NoMemory h = tt

pub lift_fails : (memory : Type 0) (ty : Plain) (due : Option (Local ℕ (Args ℕ))) (new : Config ℕ) (loans loans' : List ℕ) (fault : HandleFault) (result : Result Value Stop) → IsErrAnd result (λ stop. stop ≡ stop_of_handles fault) →
    LiftsAs ty due new loans loans' (Err fault) → Lifts memory ty due new loans loans' result
lift_fails memory ty due new loans loans' fault (Ok value) e h = absurd e
lift_fails memory ty due new loans loans' fault (Err stop) e h = subst (λ s. Lifts memory ty due new loans loans' (Err s)) (sym e) (lift_stops memory ty due new loans loans' fault h)

pub store_stops : (lent : Type 0) (ty : Plain) (v : PlainValue) (due_plan : PlainValue → Plan) (due : Option (Local ℕ (List ℕ))) (new : Config ℕ) (fault : HandleFault) → LowersAs ty v due_plan due new (Err fault) →
    Stores lent ty v due_plan due new (Err (stop_of_handles fault))
store_stops lent ty v due_plan due new Trap h = λ l. h
store_stops lent ty v due_plan due new NoMemory h = tt

pub ruleset faults = (lift_stops, store_stops)
