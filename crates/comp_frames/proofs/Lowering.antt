-- Values are lowered by plans.
use Rattle.std.proofs.Common.{◌≡◌, ℕ, List, [], ◌∷◌, None, Bool, true, false, ◌∙◌, ap}
use Rattle.std.specs.Prelude.{if◌then◌else◌}
use Rattle.core_store.specs.declared.value.CoreValue.{CoreValue}
use Rattle.wit_types.specs.Plain.{Plain}
use Rattle.wit_types.specs.PlainValue.{PlainValue}
use Rattle.abi_layout.specs.Functions.{lowered, core_params}
use Rattle.abi_layout.specs.Handles.{renumbered}
use Rattle.abi_layout.specs.Storing.{AnswerTo, lower_flat, spills, stores as store_steps}
use Rattle.abi_store.specs.Plan.{Plan, at_plan, flat_plan, spill_plan}
use Rattle.host_port.specs.Hosts.{HostStep}
use Rattle.comp_worlds.specs.Acts.{Act, ◌>>◌}
use Rattle.comp_worlds.specs.Passing.{params_tuple, answer_tuple, handles_of, most_params, most_results, spills_over}
use Rattle.comp_worlds.specs.Groups.{Nesting, Options, Lifting, type_of, Group, World, Answer}
use Rattle.comp_worlds.specs.Locals.{close, ends_loans, adds_handles}
use Rattle.comp_worlds.specs.Calls.{on, borrowed, unborrowed, plainly, lowers_closed, finds_place}
use Rattle.comp_worlds.specs.Hosts.{hosted}
use Rattle.comp_frames.specs.Running.{running}
use Rattle.comp_frames.proofs.Heads.{then_then, gives_then, then_alike}
use Rattle.comp_frames.proofs.Closed.{in_closed, flat_lowers, spill_lowers, place_lowers}
use Rattle.comp_frames.specs.Frames.{Asker, Caller, Params, Result, Storing, Rest, is_stored, is_storing}
use Rattle.comp_frames.specs.Laws.{does_plan, LowersByPlans}
use Rattle.comp_frames.proofs.Steps.{storing_goes_on}

module _ {S : Type 0} (G : Group) (h : HostStep S) (d : Nesting) where
  abbrev run : Nesting → ℕ → ℕ → List CoreValue → Act (World S) (List CoreValue)
  run = running G (hosted h)

  -- by the plan for these, while the instance is closed
  abbrev by_plan : Nesting → ℕ → Options → Plan → Act (World S) (List ℕ)
  by_plan e k options plan = in_closed G (hosted h) run e k options (does_plan G h d e k options plan)

  params_by : (b : Bool) (e : Nesting) (k : ℕ) (options : Options) (ty : Plain) (v : PlainValue) →
      lowers_closed G (hosted h) run e k options 0 (if b then record { steps = spills ty v; flats = AnswerTo 0 ∷ [] } else lower_flat ty v 0) ≡ by_plan e k options (if b then spill_plan ty v else flat_plan ty v)
  params_by true e k options ty v = λ i w n. spill_lowers G (hosted h) run e k options ty v None w n i
  params_by false e k options ty v = λ i w n. flat_lowers G (hosted h) run e k options 0 ty v None w n i

  result_by : (b : Bool) (e : Nesting) (k : ℕ) (options : Options) (ty : Plain) (at : ℕ) (v : PlainValue) →
      (finds_place G (hosted h) run b k options ty at >> λ _. lowers_closed G (hosted h) run e k options at (if b then record { steps = store_steps ty v; flats = [] } else lower_flat ty v 0))
      ≡ by_plan e k options (if b then at_plan at ty v else flat_plan ty v)
  result_by true e k options ty at v = λ i w n. place_lowers G (hosted h) run e k options at ty v None w n i
  result_by false e k options ty at v = gives_then tt (λ _. lowers_closed G (hosted h) run e k options at (lower_flat ty v 0)) ∙ λ i w n. flat_lowers G (hosted h) run e k options at ty v None w n i

  -- what is stored while the instance is closed, and what follows
  then_stored : (at : ℕ) (back : List CoreValue → Rest G (hosted h) d) (k : ℕ) (storing : Storing) (x : Act (World S) (List ℕ)) →
      (in_closed G (hosted h) run storing.depth k storing.options x >> is_stored G (hosted h) d at back storing) ≡ (on k close >> λ _. is_storing G (hosted h) d at back k storing x)
  then_stored at back k storing x = (storing_goes_on G h d).closing at back k storing x

  abbrev params_storing : ℕ → Caller → Nesting → ℕ → Lifting → Storing
  params_storing at caller e callee lifting = record { options = lifting.options; depth = e; types = core_params lifting.ty; next = Params (record { instance = callee; lifting = lifting; caller = caller; depth = e }) }

  abbrev result_storing : Asker → Nesting → Answer → Storing
  result_storing asker e answer = record { options = asker.options; depth = e; types = (lowered (type_of asker.target)).results; next = Result answer.due }

  pub lowers_by_plans : LowersByPlans G h d
  lowers_by_plans = record {
    params = λ at back caller e callee lifting passed.
        then_alike (on callee (adds_handles (borrowed G plainly callee) (handles_of (params_tuple lifting.ty) passed))) _ _ (λ indexes.
        ap (λ (y : Act (World S) (List ℕ)). y >> is_stored G (hosted h) d at back (params_storing at caller e callee lifting))
        (params_by (spills_over most_params (params_tuple lifting.ty)) e callee lifting.options (params_tuple lifting.ty) (renumbered (params_tuple lifting.ty) passed.value indexes))
        ∙ then_stored at back callee (params_storing at caller e callee lifting) _);
    result = λ at back asker e answer.
        then_alike (on at (ends_loans asker.loans)) _ _ (λ _.
        then_then (on at (adds_handles unborrowed (handles_of (answer_tuple (type_of asker.target)) answer.passed))) _ (is_stored G (hosted h) d at back (result_storing asker e answer))
        ∙ then_alike (on at (adds_handles unborrowed (handles_of (answer_tuple (type_of asker.target)) answer.passed))) _ _ (λ indexes.
        ap (λ (y : Act (World S) (List ℕ)). y >> is_stored G (hosted h) d at back (result_storing asker e answer))
        (result_by (spills_over most_results (answer_tuple (type_of asker.target))) e at asker.options (answer_tuple (type_of asker.target)) asker.place (renumbered (answer_tuple (type_of asker.target)) answer.passed.value indexes))
        ∙ then_stored at back at (result_storing asker e answer) _));
  }
