-- What instantiating a module answers, and how a component in the component begins to be made, after the step that each takes.
use Rattle.std.proofs.Common.{◌≡◌, ◌∙◌, ap, sym, refl, subst, ℕ, ◌+◌, List, [], ◌∷◌, set, Option, Some, None, Result, Ok, Err, IsErrAnd, slice_get}
use Rattle.wasm_ast.specs.declared.module.Module.{Module}
use Rattle.wasm_ast.specs.declared.component.CoreArg.{CoreArg}
use Rattle.core_memory.specs.declared.fault.StoreFault.{StoreFault}
use Rattle.core_memory.specs.declared.fault.StoreFault.TheVariants.{Trap, NoMemory}
use Rattle.core_instance.specs.declared.external.Extern.{Extern}
use Rattle.core_instance.specs.declared.external.CoreInstance.{CoreInstance}
use Rattle.core_instance.specs.Instantiation.{allocated, instance_of}
use Rattle.instance_state.specs.Ready.{Runs}
use Rattle.instance_state.specs.Done.{Instantiates}
use Rattle.host_port.specs.Hosts.{HostStep}
use Rattle.comp_worlds.specs.Groups.{Begins as BeginsStage}
use Rattle.comp_worlds.specs.Calls.{starts}
use Rattle.comp_worlds.specs.Hosts.{hosted}
use Rattle.comp_frames.specs.Running.{running}
use Rattle.comp_link.specs.Plans.{NamedArg}
use Rattle.comp_link.specs.Linking.{Givens, Whole, Making, begun, and_stage, givens_of, externs_for, and_core_instance, with_module}
use Rattle.instance_state.specs.declared.instance.Instance.{Instance}
use Rattle.call_moments.specs.declared.end.Stop.{Stop}
use Rattle.call_moments.specs.Stops.{stop_of_store}
use Rattle.call_moments.specs.Steps.{TakesStep}
use Rattle.call_moments.specs.CodeLaws.{nested}
use Rattle.call_moments.specs.Configs.{world_of}
use Rattle.call_moments.specs.Leads.{Moment, so_far, Ends}
use Rattle.instance_making.specs.declared.named.Named.{Named}
use Rattle.instance_making.specs.declared.given.Given.{Given}
use Rattle.instance_making.specs.declared.making.Making.{Making as CodeMaking}
use Rattle.instance_making.specs.Made.{Holds}
use Rattle.instance_making.specs.Shown.{Stands}
use Rattle.comp_interp.specs.declared.level.Level.{Level}
use Rattle.comp_interp.specs.Gathered.{HasWhole, Gathers, IsIdle, Made, stage_of, stages_act, Enters, Begins, IsInstantiated, ModuleComes}
use Rattle.comp_interp.proofs.Entering.{step_done, step_spends}
use Rattle.comp_interp.proofs.Failing.{has_instance, no_step}
use Rattle.comp_interp.proofs.Instantiating.{stands_with, module_traps, module_then, module_spends, instance_is, module_made}

-- its instance is there
found_instance : {S : Type 0} → (before : List Givens) (made : List (Named Given)) (m : Moment S) (l : CodeMaking) (g : Making) → Gathers before made m l g → (i : Instance) × (slice_get m.instances l.instance ≡ Some i)
found_instance before made m l g ga = go (slice_get m.instances l.instance) refl
  where
    go : (o : Option Instance) → slice_get m.instances l.instance ≡ o → (i : Instance) × (slice_get m.instances l.instance ≡ Some i)
    go None at = absurd (has_instance before made m l g ga at)
    go (Some i) at = (i, at)

-- ---- no step is left

module _ {S : Type 0} (h : HostStep S) (old new : Moment S) (stop : Stop) (step : TakesStep old.budget new.budget (Err stop)) (kept : new.kept ≡ old.kept) where
  pub step_ends_module : (m : Module) (args : List CoreArg) (made made' : List (Named Given)) (l l' : CodeMaking) (result : Result (Option ℕ) Stop) → IsErrAnd result (λ s. s ≡ stop) → IsInstantiated h m args made old l result made' new l'
  step_ends_module m args made made' l l' (Ok o) e = absurd e
  step_ends_module m args made made' l l' (Err s) e = λ before g G ga idle fits.
      let i = found_instance before made old l g ga in
      let none = no_step old.budget new.budget stop step in
      subst (λ x. Ends h G (so_far old (stages_act h G (stage_of g m args ∷ []))) new x) (sym (e ∙ none.0)) (module_spends h before made old l g ga idle m (externs_for g m args) fits i.0 i.1 new G none.1 kept)

  pub step_ends_component : (args : List NamedArg) (made made' : List (Named Given)) (l : CodeMaking) (result : Result Level Stop) → IsErrAnd result (λ s. s ≡ stop) → Begins h args made old l result made' new
  step_ends_component args made made' l (Ok level) e = absurd e
  step_ends_component args made made' l (Err s) e = λ G.
      let none = no_step old.budget new.budget stop step in
      subst (λ x. Ends h G (so_far old (stages_act h G (BeginsStage ∷ []))) new x) (sym (e ∙ none.0)) (step_spends h G old new kept none.1)

-- ---- a step was taken

module _ {S : Type 0} (h : HostStep S) (old mid : Moment S) (is : mid ≡ record old { budget = mid.budget }) (taken : old.budget ≡ mid.budget + 1) where
  same_instances : mid.instances ≡ old.instances
  same_instances = ap (λ (x : Moment S). x.instances) is

  -- ---- a module is instantiated

  module _ (m : Module) (args : List CoreArg) (made : List (Named Given)) (l : CodeMaking) (externs : List Extern) (externs_are : (before : List Givens) (g : Making) → Stands before l g → externs ≡ externs_for g m args)
      (i : Instance) (found : slice_get mid.instances l.instance ≡ Some i) (runs : Runs) where
    found_old : slice_get old.instances l.instance ≡ Some i
    found_old = ap (λ is'. slice_get is' l.instance) (sym same_instances) ∙ found

    abbrev after : Instance
    after = record { code = runs; handles = i.handles; entered = i.entered; closed = i.closed }

    abbrev reached : Moment S
    reached = record mid { instances = set mid.instances l.instance after }

    reached_is : reached ≡ record old { budget = mid.budget; instances = set old.instances l.instance after }
    reached_is = ap (λ (x : Moment S). record x { instances = set x.instances l.instance after }) is

    pub instantiates : (instance : CoreInstance) → Instantiates i.code m externs runs (Ok instance) → (l' : CodeMaking) → ((before : List Givens) (g : Making) → Stands before l g → Stands before l' (and_core_instance g instance.exports)) →
        IsInstantiated h m args made old l (Ok instance.start) made reached l'
    instantiates instance was l' keeps = λ before g ga idle fits.
        let ex : List Extern = externs_for g m args in
        let was' : Instantiates i.code m ex runs (Ok instance) = subst (λ e. Instantiates i.code m e runs (Ok instance)) (externs_are before g ga.stands) was in
        let same : instance ≡ instance_of g.shadow m ex = instance_is h before made old l g ga idle m ex fits i found_old mid.budget runs instance was' in
        let g' : Making = record g { whole = (with_module g m ex).whole; shadow = allocated g.shadow m ex } in
        let stands : Stands before l' (with_module g m ex) = subst (λ (x : CoreInstance). Stands before l' (and_core_instance g' x.exports)) same (keeps before g' (stands_with before l g m ex ga.stands)) in (
          subst (λ x. Made before old x made l' (with_module g m ex)) (sym reached_is) (module_made h before made old l g ga idle m ex fits i found_old mid.budget runs instance was' l' stands),
          ap (λ (x : CoreInstance). x.start) same,
          λ G. module_then h before made old l g ga idle m ex fits i found_old mid.budget taken G runs instance was'
              ∙ ap (λ x. so_far x (starts G (hosted h) (running G (hosted h)) (nested 0) g.instance (instance_of g.shadow m ex).start)) (sym reached_is)
              ∙ ap (λ (x : CoreInstance). so_far reached (starts G (hosted h) (running G (hosted h)) (nested 0) g.instance x.start)) (sym same),
        )

    pub fails : (fault : StoreFault) → Instantiates i.code m externs runs (Err fault) → (result : Result (Option ℕ) Stop) → IsErrAnd result (λ s. s ≡ stop_of_store fault) → (new : Moment S) → new.kept ≡ old.kept → (made' : List (Named Given)) (l' : CodeMaking) →
        IsInstantiated h m args made old l result made' new l'
    fails fault was (Ok o) e new kept made' l' = absurd e
    fails Trap was (Err s) e new kept made' l' = λ before g G ga idle fits.
        let ex : List Extern = externs_for g m args in
        let was' : Instantiates i.code m ex runs (Err Trap) = subst (λ x. Instantiates i.code m x runs (Err Trap)) (externs_are before g ga.stands) was in
        subst (λ x. Ends h G (so_far old (stages_act h G (stage_of g m args ∷ []))) new x) (sym e) (module_traps h before made old l g ga idle m ex fits i found_old mid.budget taken G new runs was' kept)
    fails NoMemory was (Err s) e new kept made' l' = λ before g G ga idle fits. subst (λ x. Ends h G (so_far old (stages_act h G (stage_of g m args ∷ []))) new x) (sym e) tt

  -- ---- a component begins to be made

  pub enters : (args : List NamedArg) (made made' : List (Named Given)) (l : CodeMaking) (given : Named Given) (result : Result Level Stop) (new : Moment S) → ((before : List Givens) (g : Making) → Stands before l g → Holds before given (givens_of g args)) →
      Enters h made mid given result made' new → Begins h args made old l result made' new
  enters args made made' l given (Ok level) new holds came = λ before g ga idle.
      let w : Whole = and_stage g.whole BeginsStage in
      let group = ap (λ (x : Moment S). x.group) is in
      let so = came before w (givens_of g args) ga.made
      (subst (λ x. HasWhole x w) (sym is) (record { instances = ga.whole.instances; rows = ga.whole.rows; canons = ga.whole.canons; next = ga.whole.next; owners = ga.whole.owners }))
      (subst IsIdle (sym is) (record { still = idle.still; calls = idle.calls; frames = idle.frames; lend = idle.lend })) (holds before g ga.stands) in
      let made_mid = subst (λ x. Made before x new made' level.making (begun w (givens_of g args))) is so.0 in (
        record { more = made_mid.more; gathers = made_mid.gathers; idle = made_mid.idle; others = record { rows = made_mid.others.rows; scenes = made_mid.others.scenes }; imported = made_mid.imported },
        λ G. step_done h G old new (so.2 ∙ ap (λ (x : Moment S). x.kept) is) (taken ∙ ap (λ n. n + 1) (sym so.3)) (so.1 ∙ ap (λ (x : Moment S). world_of x.instances x.kept.state) is),
      )
  enters args made made' l given (Err stop) new holds came = λ G. subst (λ x. Ends h G (so_far old (stages_act h G (BeginsStage ∷ []))) new x) (sym came) tt

-- ---- the instantiation failed

pub comes_fails : {S : Type 0} → (h : HostStep S) (m : Module) (args : List CoreArg) (made made' : List (Named Given)) (old new : Moment S) (l l' : CodeMaking) (stop : Stop) (result : Result (Unit {0}) Stop) → IsErrAnd result (λ s. s ≡ stop) →
    IsInstantiated h m args made old l (Err stop) made' new l' → ModuleComes h m args made old l result made' new l'
comes_fails h m args made made' old new l l' stop (Ok u) e is = absurd e
comes_fails h m args made made' old new l l' stop (Err s) e is = λ before g G ga idle fits can. subst (λ x. Ends h G (so_far old (stages_act h G (stage_of g m args ∷ []))) new x) (sym e) (is before g G ga idle fits)
