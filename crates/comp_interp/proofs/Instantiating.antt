-- A module is instantiated in its instance, up to its start function.
use Rattle.std.proofs.Common.{◌≡◌, ◌∙◌, ap, sym, refl, subst, ℕ, suc, ◌+◌, List, [], ◌∷◌, set, Option, Some, None, Result, Ok, Err, append-nil, length-set, arith, slice_get}
use Rattle.wasm_ast.specs.declared.module.Module.{Module}
use Rattle.core_store.specs.State.{State}
use Rattle.core_store.specs.Scene.{Scene, scene_of}
use Rattle.core_memory.specs.declared.fault.StoreFault.TheVariants.{Trap}
use Rattle.core_instance.specs.declared.external.Extern.{Extern}
use Rattle.core_instance.specs.declared.external.CoreInstance.{CoreInstance}
use Rattle.core_instance.specs.Instantiation.{allocated, instantiated, instance_of}
use Rattle.instance_state.specs.Ready.{Runs}
use Rattle.instance_state.specs.Done.{Instantiates}
use Rattle.host_port.specs.Hosts.{HostStep}
use Rattle.comp_worlds.specs.Acts.{Over, Spent, Trapped, seen_before, Act, ◌>>◌, takes_step}
use Rattle.comp_worlds.specs.Groups.{Stage, Group, World, Makes as MakesStage}
use Rattle.comp_worlds.specs.Locals.{Local, gives_in, makes_module, with_store}
use Rattle.comp_worlds.specs.Calls.{with_config, on, starts}
use Rattle.comp_worlds.specs.Hosts.{hosted}
use Rattle.comp_frames.specs.Running.{running}
use Rattle.comp_frames.proofs.Heads.{before_spent, before_over, step_spent, step_then, on_some, on_none, then_gives}
use Rattle.comp_link.specs.Linking.{Givens, Making, with_module}
use Rattle.comp_joins.specs.Fits.{ModuleFits}
use Rattle.instance_state.specs.declared.instance.Instance.{Instance}
use Rattle.instance_state.specs.Shown.{config_of}
use Rattle.call_moments.specs.declared.end.Stop.TheVariants as stops
use Rattle.call_moments.specs.CodeLaws.{nested}
use Rattle.call_moments.specs.Configs.{world_of}
use Rattle.call_moments.proofs.Worlds.{config_at, changed}
use Rattle.call_moments.specs.Leads.{Moment, so_far, Ends}
use Rattle.call_moments.proofs.Instances.{calls_here}
use Rattle.instance_making.specs.declared.named.Named.{Named}
use Rattle.instance_making.specs.declared.given.Given.{Given}
use Rattle.instance_making.specs.declared.making.Making.{Making as CodeMaking}
use Rattle.instance_making.specs.Made.{AreMade}
use Rattle.instance_making.specs.Shown.{Stands}
use Rattle.comp_interp.specs.Gathered.{scene_at, Gathers, IsIdle, Made, stages_act}
use Rattle.comp_interp.proofs.Lists.{set_here}
use Rattle.comp_interp.proofs.Gathering.{some_same, scene_is, scene_there, idle_set}
use Rattle.comp_interp.proofs.Modules.{there_alike, all_alike, same_instance, made_scene}

-- what stands does not go by the store and the group
pub stands_with : (before : List Givens) (l : CodeMaking) (g : Making) (module' : Module) (externs : List Extern) → Stands before l g → Stands before l (record g { whole = (with_module g module' externs).whole; shadow = allocated g.shadow module' externs })
stands_with before l g module' externs h = record {
  instance = h.instance;
  given = h.given;
  canons = h.canons;
  core_functions = h.core_functions;
  core_tables = h.core_tables;
  core_memories = h.core_memories;
  core_globals = h.core_globals;
  core_instances = h.core_instances;
  functions = h.functions;
  instances = h.instances;
  resources = h.resources;
  exports = h.exports;
}

module _ {S : Type 0} (h : HostStep S) (before : List Givens) (made : List (Named Given)) (m : Moment S) (l : CodeMaking) (g : Making) (ga : Gathers before made m l g) (idle : IsIdle m)
    (module' : Module) (externs : List Extern) (fits : ModuleFits g.shadow module' externs) (i : Instance) (found : slice_get m.instances l.instance ≡ Some i) where
  store_same : scene_of i.code.store ≡ scene_of g.shadow
  store_same = some_same (scene_of i.code.store) (scene_of g.shadow) (sym (scene_is m.instances l.instance i found) ∙ ap (scene_at m.instances) ga.stands.instance ∙ ga.own.store)

  abbrev make : State → Result State State
  make s = instantiated s module' externs

  abbrev start : Option ℕ
  start = (instance_of g.shadow module' externs).start

  abbrev its_stage : Stage
  its_stage = MakesStage g.instance (λ s. instantiated s module' externs) (instance_of g.shadow module' externs).start

  -- where it traps, instantiation does
  pub traps_alike : (runs : Runs) → Instantiates i.code module' externs runs (Err Trap) → makes_module make (config_of i) ≡ None
  traps_alike runs was =
      let t = was (idle.still l.instance i found) (there_alike g.shadow i.code.store externs (sym store_same) fits.imports_there) (all_alike g.shadow i.code.store (ap (λ (w : Scene). w.functions) (sym store_same)) module'.types module'.imports externs fits.imports_match) in
      ap (λ (r : Result State State). elim r as (λ _. Option (Local ℕ (Unit {0}))) [ Ok s ↦ Some (gives_in tt (with_store (config_of i) s)) | Err s ↦ None ]) t.1

  module _ (left : ℕ) (taken : m.budget ≡ left + 1) (G : Group) where
    abbrev rest : Unit {0} → Act (World S) (Unit {0})
    rest u = starts G (hosted h) (running G (hosted h)) (nested 0) g.instance start

    abbrev stepped : Moment S
    stepped = record m { budget = left }

    one_stage : stages_act h G (its_stage ∷ []) ≡ (takes_step >> λ (u : Unit {0}). on g.instance (makes_module make) >> rest)
    one_stage = then_gives (takes_step >> λ (u : Unit {0}). on g.instance (makes_module make) >> rest)

    to_make : so_far m (takes_step >> λ (u : Unit {0}). on g.instance (makes_module make) >> rest) ≡ so_far stepped (on g.instance (makes_module make) >> rest)
    to_make =
        let one : m.budget ≡ suc left = omega (arith, taken) in
        ap (λ n. seen_before m.kept.seen ((takes_step >> λ (u : Unit {0}). on g.instance (makes_module make) >> rest) (world_of m.instances m.kept.state) n)) one
        ∙ ap (seen_before m.kept.seen) (step_then (λ (u : Unit {0}). on g.instance (makes_module make) >> rest) (world_of m.instances m.kept.state) left)

    same_config : (world_of m.instances m.kept.state).configs g.instance ≡ config_of i
    same_config = ap (λ k. (world_of m.instances m.kept.state).configs k) (sym ga.stands.instance) ∙ config_at m.instances l.instance i i found

    pub module_traps : (new : Moment S) (runs : Runs) → Instantiates i.code module' externs runs (Err Trap) → new.kept ≡ m.kept → Ends h G (so_far m (stages_act h G (its_stage ∷ []))) new stops.Trapped
    module_traps new runs was kept =
        ap (so_far m) one_stage
        ∙ to_make
        ∙ ap (seen_before m.kept.seen) (on_none (world_of m.instances m.kept.state) left g.instance (makes_module make) rest (ap (makes_module make) same_config ∙ traps_alike runs was))
        ∙ before_over m.kept.seen Trapped
        ∙ ap (λ k. Over k.seen Trapped) (sym kept)

    pub module_then : (runs : Runs) (instance : CoreInstance) → Instantiates i.code module' externs runs (Ok instance) →
        so_far m (stages_act h G (its_stage ∷ [])) ≡ so_far (record stepped { instances = set m.instances l.instance (record { code = runs; handles = i.handles; entered = i.entered; closed = i.closed }) }) (rest tt)
    module_then runs instance was =
        let j : Instance = record { code = runs; handles = i.handles; entered = i.entered; closed = i.closed } in
        let goes : makes_module make (config_of i) ≡ Some (gives_in tt (config_of j)) =
        ap (λ (r : Result State State). elim r as (λ _. Option (Local ℕ (Unit {0}))) [ Ok s ↦ Some (gives_in tt (with_store (config_of i) s)) | Err s ↦ None ]) was.0 in
        ap (so_far m) one_stage
        ∙ to_make
        ∙ ap (seen_before m.kept.seen)
        (on_some (world_of m.instances m.kept.state) left g.instance (makes_module make) rest (gives_in tt (config_of j)) (ap (makes_module make) same_config ∙ goes)
        ∙ ap (λ k. rest tt (with_config (world_of m.instances m.kept.state) k (config_of j)) left) (sym ga.stands.instance)
        ∙ ap (λ v. rest tt v left) (changed m.instances l.instance i j found m.kept.state))

  pub module_spends : (new : Moment S) (G : Group) → m.budget ≡ 0 → new.kept ≡ m.kept → Ends h G (so_far m (stages_act h G (its_stage ∷ []))) new stops.Spent
  module_spends new G none kept =
      let rest : Unit {0} → Act (World S) (Unit {0}) = λ u. starts G (hosted h) (running G (hosted h)) (nested 0) g.instance start in
      ap (so_far m) (then_gives (takes_step >> λ (u : Unit {0}). on g.instance (makes_module make) >> rest))
      ∙ ap (λ n. seen_before m.kept.seen ((takes_step >> λ (u : Unit {0}). on g.instance (makes_module make) >> rest) (world_of m.instances m.kept.state) n)) none
      ∙ ap (seen_before m.kept.seen) (step_spent (λ (u : Unit {0}). on g.instance (makes_module make) >> rest) (world_of m.instances m.kept.state))
      ∙ before_spent m.kept.seen
      ∙ ap (λ k. Spent k.seen) (sym kept)

  module _ (left : ℕ) (runs : Runs) (instance : CoreInstance) (was : Instantiates i.code module' externs runs (Ok instance)) where
    abbrev after : Instance
    after = record { code = runs; handles = i.handles; entered = i.entered; closed = i.closed }

    abbrev made_moment : Moment S
    made_moment = record m { budget = left; instances = set m.instances l.instance after }

    pub instance_is : instance ≡ instance_of g.shadow module' externs
    instance_is = was.1 ∙ same_instance i.code.store g.shadow module' externs store_same

    new_scene : scene_at (set m.instances l.instance after) g.instance ≡ Some (scene_of (allocated g.shadow module' externs))
    new_scene =
        ap (scene_at (set m.instances l.instance after)) (sym ga.stands.instance)
        ∙ scene_is (set m.instances l.instance after) l.instance after (set_here m.instances l.instance i after found)
        ∙ ap Some (made_scene i.code.store runs.store g.shadow module' externs store_same was.0)

    made_idle : IsIdle made_moment
    made_idle =
        let idle' = idle_set m l.instance i after found
        (was.3 ∙ idle.still l.instance i found)
        (was.2 ∙ sym (calls_here m.instances l.instance i found) ∙ idle.calls l.instance) refl
        idle in
        record { still = idle'.still; calls = idle'.calls; frames = idle'.frames; lend = idle'.lend }

    pub module_made : (l' : CodeMaking) → Stands before l' (with_module g module' externs) → Made before m made_moment made l' (with_module g module' externs)
    module_made l' stands = record {
      more = [];
      gathers = record {
        made = subst (λ all. AreMade made all) (sym (append-nil before)) ga.made;
        stands = subst (λ all. Stands all l' (with_module g module' externs)) (sym (append-nil before)) stands;
        own = record { canons = ga.own.canons; store = new_scene };
        whole = record {
          instances = length-set m.instances l.instance after ∙ ga.whole.instances;
          rows = ga.whole.rows;
          canons = ga.whole.canons;
          next = ga.whole.next;
          owners = ga.whole.owners;
        };
      };
      idle = made_idle;
      others = record { rows = λ j differ. refl; scenes = λ j differ. scene_there m.instances l.instance j after (λ e. differ (e ∙ ga.stands.instance)) };
      imported = refl;
    }
