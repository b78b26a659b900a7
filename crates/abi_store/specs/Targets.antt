-- The plan for a value and a target, and how a step of it ends.
use Rattle.std.specs.Prelude.{◌≡◌, List}
use Rattle.virt_base.specs.declared.core_type.CoreType.{CoreType}
use Rattle.core_memory.specs.Linear.{Linear}
use Rattle.wit_types.specs.Plain.{Plain}
use Rattle.wit_types.specs.PlainValue.{PlainValue}
use Rattle.abi_store.specs.declared.target.Target.{Target}
use Rattle.abi_store.specs.declared.target.Target.TheVariants.{At, Flat, Spill}
use Rattle.abi_store.specs.declared.target.StoreStep.{StoreStep}
use Rattle.abi_store.specs.declared.target.StoreStep.TheVariants.{NeedsRealloc, Done, Trap}
use Rattle.abi_store.specs.Plan.{Halt, Asks, Ends, Traps, Asked, Plan, at_plan, flat_plan, spill_plan, core_values}

abbrev pub plan_for : Target → Plain → PlainValue → Plan
plan_for (At place) ty v = at_plan place ty v
plan_for Flat ty v = flat_plan ty v
plan_for Spill ty v = spill_plan ty v

-- A step ends where the plan leads: at a request, with what is left after it; at the end, with the flat values; or at a trap, and
-- nothing is said of the plan then.
abbrev pub Stops : Halt → List CoreType → StoreStep → Plan → Linear → Type 0
Stops (Asks align len left memory) types step plan new = (step ≡ NeedsRealloc 0 0 align len) × (plan ≡ record { due = Asked align len; left = left; types = types }) × (new ≡ memory)
Stops (Ends flats memory) types step plan new = (step ≡ Done (core_values types flats)) × (new ≡ memory)
Stops (Traps memory) types step plan new = (step ≡ Trap) × (new ≡ memory)
