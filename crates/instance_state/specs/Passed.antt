-- What lifting out of an instance, and lowering into one, leaves.
use Rattle.std.specs.Prelude.{◌≡◌, ◌<◌, ℕ, Bool, ◌||◌, if◌then◌else◌, List, length, ◌++◌, Option, Some, None, Result, Ok, Err}
use Rattle.core_store.specs.State.{State}
use Rattle.wit_types.specs.Plain.{Plain}
use Rattle.wit_types.specs.PlainValue.{PlainValue, plain_value}
use Rattle.wit_types.specs.declared.value.Value.{Value}
use Rattle.abi_layout.specs.Loading.{has_ranges}
use Rattle.abi_layout.specs.Handles.{renumbered}
use Rattle.abi_load.specs.declared.fault.LoadFault.{LoadFault}
use Rattle.abi_load.specs.declared.fault.LoadFault.TheVariants as loads
use Rattle.abi_store.specs.Plan.{Plan, at_plan, flat_plan, spill_plan}
use Rattle.comp_worlds.specs.Passing.{most_params, most_results, spills_over}
use Rattle.comp_worlds.specs.Hosts.{passed_by}
use Rattle.comp_worlds.specs.Groups.{Options, Config}
use Rattle.comp_worlds.specs.Locals.{Local, Args}
use Rattle.instance_state.specs.declared.fault.HandleFault.{HandleFault}
use Rattle.instance_state.specs.declared.fault.HandleFault.TheVariants.{Trap, NoMemory}
use Rattle.instance_state.specs.declared.options.CallOptions.{CallOptions}

abbrev pub options_of : CallOptions → Options
options_of o = record { memory = o.memory; realloc = o.realloc }

-- values of the type are read from memory, or go through it
abbrev pub needs_memory : ℕ → Plain → Bool
needs_memory most ty = has_ranges ty || spills_over most ty

abbrev pub IsInStore : Option ℕ → State → Type 0
IsInStore None s = ⊥
IsInStore (Some at) s = at < length s.memories

abbrev pub fault_of : LoadFault → HandleFault
fault_of loads.Trap = Trap
fault_of loads.NoMemory = NoMemory

-- the value that passes, with its handles by that for which they stand; and after other loans those of the value
abbrev pub IsLiftedAs : Plain → Option (Local ℕ (Args ℕ)) → Config ℕ → (loans loans' : List ℕ) → Value → Type 0
IsLiftedAs ty None new loans loans' v = ⊥
IsLiftedAs ty (Some l) new loans loans' v = (l.config ≡ new) × (passed_by ty (plain_value v) ≡ l.answer.passed) × (loans' ≡ loans ++ l.answer.loans)

abbrev pub LiftsAs : Plain → Option (Local ℕ (Args ℕ)) → Config ℕ → (loans loans' : List ℕ) → Result Value HandleFault → Type 0
LiftsAs ty due new loans loans' (Ok v) = IsLiftedAs ty due new loans loans' v
LiftsAs ty due new loans loans' (Err Trap) = due ≡ None
LiftsAs ty due new loans loans' (Err NoMemory) = Unit {0}

-- the plan for a value with the indexes of its handles
abbrev pub IsLoweredAs : Plain → PlainValue → (PlainValue → Plan) → Option (Local ℕ (List ℕ)) → Config ℕ → Plan → Type 0
IsLoweredAs ty v due_plan None new plan = ⊥
IsLoweredAs ty v due_plan (Some l) new plan = (l.config ≡ new) × (plan ≡ due_plan (renumbered ty v l.answer))

abbrev pub LowersAs : Plain → PlainValue → (PlainValue → Plan) → Option (Local ℕ (List ℕ)) → Config ℕ → Result Plan HandleFault → Type 0
LowersAs ty v due_plan due new (Ok plan) = IsLoweredAs ty v due_plan due new plan
LowersAs ty v due_plan due new (Err Trap) = due ≡ None
LowersAs ty v due_plan due new (Err NoMemory) = Unit {0}

-- the plan for parameters, and for a result at the place that the caller gave
abbrev pub params_plan : Plain → PlainValue → Plan
params_plan ty v = if spills_over most_params ty then spill_plan ty v else flat_plan ty v

abbrev pub result_plan : Plain → ℕ → PlainValue → Plan
result_plan ty at v = if spills_over most_results ty then at_plan at ty v else flat_plan ty v
