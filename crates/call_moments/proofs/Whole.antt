-- What is done to core code shortens no memory.
use Rattle.std.proofs.Common.{◌≡◌, ℕ, ◌+◌, ◌-◌, List, [], ◌∷◌, ◌++◌, true, Option, Ok, sym, ap, ◌∙◌, subst, arith, append-nil}
use Rattle.core_store.specs.State.{State, memory_at}
use Rattle.core_store.specs.declared.value.CoreValue.{CoreValue}
use Rattle.core_store.specs.Config.{Outcome, Done, Asks}
use Rattle.core_store.specs.Eval.{eval}
use Rattle.core_interp.specs.declared.machine.Pause.TheVariants as pauses
use Rattle.core_interp.specs.Session.{Says}
use Rattle.abi_store.specs.Plan.{Plan}
use Rattle.abi_store.specs.declared.target.StoreStep.{StoreStep}
use Rattle.instance_state.specs.declared.calls.CoreCall.{CoreCall}
use Rattle.instance_state.specs.Ready.{Runs, IsAt}
use Rattle.instance_state.specs.Done.{Goes, Stores}
use Rattle.call_moments.specs.MemoryLaws.{NoShorter, MemoriesNeverShrink}
use Rattle.call_moments.proofs.Changes.{still, with_longer, stops_longer}
use Rattle.call_moments.proofs.Running.{Ended, rest_ends}

-- the store with another number of calls in progress
same_memories : (s t : State) (n : ℕ) → t ≡ record s { nesting = n } → NoShorter s t
same_memories s t n e = subst (NoShorter s) (sym e) (still s)

-- where the evaluation ends so, the rest of the machine does
ends_at : (outer : List CoreCall) (call : CoreCall) (old : Runs) (at : IsAt call.machine old.store) (steps : ℕ) (o : Outcome) → eval at.first at.function at.args (at.used ++ []) (at.taken + steps + 0) ≡ o → Ended old.store o
ends_at outer call old at steps o is =
    let count : at.taken + (steps + 0) ≡ at.taken + steps + 0 = omega arith in
    subst (Ended old.store) (sym (at.follows.so_far [] (steps + 0)) ∙ ap (eval at.first at.function at.args (at.used ++ [])) count ∙ is) (rest_ends call.machine old.store (steps + 0))

ends : (outer : List CoreCall) (call : CoreCall) (old new : Runs) (before after : ℕ) (values : List CoreValue) → old.calls ≡ outer ++ call ∷ [] → old.going ≡ true → IsAt call.machine old.store → Goes old before (pauses.Done values) new after → NoShorter old.store new.store
ends outer call old new before after values last going at goes =
    let ran = (goes outer call last going).0 in
    let says : Says at.first at.function at.args at.used (at.taken + (before - after)) after (pauses.Done values) ran.machine new.store = ran.pauses.says at.first at.function at.args at.used at.taken at.follows in
    ends_at outer call old at (before - after) (Done values new.store 0) (says.0 [] 0)

asks : (outer : List CoreCall) (call : CoreCall) (old new : Runs) (before after number : ℕ) (args : List CoreValue) → old.calls ≡ outer ++ call ∷ [] → old.going ≡ true → IsAt call.machine old.store → Goes old before (pauses.AtHost number args) new after → NoShorter old.store new.store
asks outer call old new before after number args last going at goes =
    let ran = (goes outer call last going).0 in
    let says : Says at.first at.function at.args at.used (at.taken + (before - after)) after (pauses.AtHost number args) ran.machine new.store = ran.pauses.says at.first at.function at.args at.used at.taken at.follows in
    ends_at outer call old at (before - after) (Asks number args new.store 0) (ap (λ us. eval at.first at.function at.args us (at.taken + (before - after) + 0)) (append-nil at.used) ∙ says.0 0)

stores : (old new : Runs) (plan left : Plan) (memory : ℕ) (answer : Option ℕ) (step : StoreStep) → Stores old plan memory answer left new (Ok step) → NoShorter old.store new.store
stores old new plan left memory answer step h =
    subst (NoShorter old.store) (sym h.0.1)
    (with_longer old.store memory (memory_at new.store memory) (stops_longer plan.due plan.left answer plan.types step left (memory_at old.store memory) (memory_at new.store memory) h.0.0))

pub never_shrink : MemoriesNeverShrink
never_shrink = record {
  begins = λ old new function args nesting b. same_memories old.store new.store nesting b.store;
  ends = ends;
  asks = asks;
  resumes = λ outer call old new results last r. same_memories old.store new.store call.nesting (r outer call last).store;
  stores = stores;
}
