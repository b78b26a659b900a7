-- Where something of a plan fails: what is named is there, so only memory can run out.
use Rattle.std.proofs.Common.{◌≡◌, ◌∙◌, ap, sym, refl, subst, ℕ, List, length, None, Result, Ok, Err, false, Vec, ◌≤◌, IsErrAnd, slice_get}
use Rattle.std.specs.Option.{option_map}
use Rattle.std.specs.Global.{Global}
use Rattle.std.proofs.lemmas.Bool.{false≢true}
use Rattle.std.proofs.lemmas.Option.{none-some, slice_get-map, slice_get_past}
use Rattle.wasm_ast.specs.declared.module.CoreFunc.{CoreFunc}
use Rattle.core_memory.specs.declared.fault.StoreFault.{StoreFault}
use Rattle.core_memory.specs.declared.fault.StoreFault.TheVariants.{Trap, NoMemory}
use Rattle.core_store.specs.Scene.{scene_of}
use Rattle.instance_state.specs.Ready.{Runs}
use Rattle.instance_state.specs.Done.{Provides}
use Rattle.host_port.specs.Hosts.{HostStep}
use Rattle.comp_worlds.specs.Groups.{Stage, Group}
use Rattle.comp_link.specs.Linking.{Givens, Making}
use Rattle.instance_state.specs.declared.instance.Instance.{Instance}
use Rattle.instance_state.specs.declared.canon.Canon.{Canon}
use Rattle.call_moments.specs.declared.end.Stop.{Stop}
use Rattle.call_moments.specs.declared.end.Stop.TheVariants as stops
use Rattle.call_moments.specs.Stops.{stop_of_store}
use Rattle.call_moments.specs.Steps.{TakesStep}
use Rattle.call_moments.specs.Leads.{Moment, so_far, Ends}
use Rattle.instance_making.specs.declared.named.Named.{Named}
use Rattle.instance_making.specs.declared.given.Given.{Given}
use Rattle.instance_making.specs.declared.making.Making.{Making as CodeMaking}
use Rattle.instance_making.specs.Shown.{Stands}
use Rattle.comp_interp.specs.Gathered.{row_at, scene_at, Gathers, stages_act, Came, Makes}

module _ {S : Type 0} (h : HostStep S) where
  -- nothing is said where memory runs out
  pub out_of_memory : (stages : List Stage) (old new : Moment S) (stop : Stop) → stop ≡ stops.NoMemory → (G : Group) → Ends h G (so_far old (stages_act h G stages)) new stop
  out_of_memory stages old new stop e = λ G. subst (λ s. Ends h G (so_far old (stages_act h G stages)) new s) (sym e) tt

module _ {S : Type 0} (before : List Givens) (made : List (Named Given)) (m : Moment S) (l : CodeMaking) (g : Making) (ga : Gathers before made m l g) where
  pub has_instance : slice_get m.instances l.instance ≡ None → ⊥
  has_instance none =
      none-some (scene_of g.shadow)
      (sym (slice_get-map (λ (x : Instance). scene_of x.code.store) m.instances l.instance ∙ ap (option_map (λ (x : Instance). scene_of x.code.store)) none) ∙ ap (scene_at m.instances) ga.stands.instance ∙ ga.own.store)

  pub has_row : slice_get m.group.canons.items l.instance ≡ None → ⊥
  has_row none =
      none-some g.canons (sym (ap (option_map (λ (r : Vec Canon Global). length r.items)) none) ∙ ap (row_at m.group.canons.items) ga.stands.instance ∙ ga.own.canons)

  pub instance_there : length m.instances ≤ l.instance → ⊥
  instance_there past = has_instance (slice_get_past m.instances l.instance past)

  pub row_there : length m.group.canons.items ≤ l.instance → ⊥
  row_there past = has_row (slice_get_past m.group.canons.items l.instance past)

-- memory ran out
pub came_failed : {S : Type 0} → (h : HostStep S) (before : List Givens) (stages : List Stage) (old : Moment S) (g : Making) (r : Result (Unit {0}) Stop) (new : Moment S) (made : List (Named Given)) (l : CodeMaking) (fault : Stop) → fault ≡ stops.NoMemory → IsErrAnd r (λ stop. stop ≡ fault) →
    Came h before stages old g r new made l
came_failed h before stages old g (Ok u) new made l fault is e = absurd e
came_failed h before stages old g (Err stop) new made l fault is e = out_of_memory h stages old new stop (e ∙ is)

-- no code goes on, so a function is provided
pub provides_if_still : (old new : Runs) (ty : CoreFunc) (number : ℕ) (fault : StoreFault) → old.going ≡ false → Provides old ty number new (Err fault) → stop_of_store fault ≡ stops.NoMemory
provides_if_still old new ty number Trap still was = absurd (false≢true (sym still ∙ was))
provides_if_still old new ty number NoMemory still was = refl

-- the same of another item that makes the same
pub makes_as : {S : Type 0} → (h : HostStep S) (item item' : Making → Making) (made made' : List (Named Given)) (old new : Moment S) (l l' : CodeMaking) (result : Result (Unit {0}) Stop) → ((before : List Givens) (g : Making) → Stands before l g → item' g ≡ item g) →
    Makes h item made old l result made' new l' → Makes h item' made old l result made' new l'
makes_as h item item' made made' old new l l' result same was =
    λ before g stages ga idle e.
    let is : item' g ≡ item g = same before g ga.stands in
    subst (λ x. Came h before stages old x result new made' l') (sym is) (was before g stages ga idle (ap (λ (x : Making). x.whole.stages) (sym is) ∙ e))

-- a step is not taken only where none is left
pub no_step : (old new : ℕ) (stop : Stop) → TakesStep old new (Err stop) → (stop ≡ stops.Spent) × (old ≡ 0)
no_step old new stops.Spent h = (refl, h)
no_step old new stops.Trapped h = absurd h
no_step old new stops.ScriptEnded h = absurd h
no_step old new stops.BadAnswer h = absurd h
no_step old new stops.TooDeep h = absurd h
no_step old new stops.NoMemory h = absurd h
