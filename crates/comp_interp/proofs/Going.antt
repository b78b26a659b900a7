-- The innermost level goes on by an item: all that was done is done, or what ends the run ends the whole.
use Rattle.std.proofs.Common.{◌≡◌, ◌∙◌, ap, sym, refl, subst, ℕ, List, [], ◌∷◌, ◌++◌, None, Ok, Err, append_assoc}
use Rattle.std.specs.Option.{option_map}
use Rattle.wasm_ast.specs.Boxed.{Held as HeldValue}
use Rattle.wasm_ast.specs.declared.module.Module.{Module}
use Rattle.wasm_ast.specs.declared.component.CoreArg.{CoreArg}
use Rattle.host_port.specs.Hosts.{HostStep}
use Rattle.comp_types.specs.Views.{item_of}
use Rattle.comp_worlds.specs.Groups.{Stage, Begins as BeginsStage}
use Rattle.comp_link.specs.Plans.{NamedArg, Plan, Planned, End, Then, followed, if_some, just}
use Rattle.comp_link.specs.Plans as plans
use Rattle.comp_link.specs.Linking.{Whole, Making, begun, and_stage, givens_of, link, link_item}
use Rattle.comp_link.specs.declared.items.PlanItem.{PlanItem}
use Rattle.comp_link.specs.declared.items.PlanItem.TheVariants as items
use Rattle.comp_link.specs.declared.linked.Linked.{Linked}
use Rattle.comp_link.specs.Planned.{PlannedComponent, item_named, args_named, plan_item}
use Rattle.comp_joins.specs.Growing.{Grows}
use Rattle.comp_joins.proofs.Growing.{grows_then, item_grows, plan_grows}
use Rattle.call_moments.specs.declared.end.Stop.{Stop}
use Rattle.call_moments.specs.Leads.{Moment, so_far, Ends}
use Rattle.instance_making.specs.declared.named.Named.{Named}
use Rattle.instance_making.specs.declared.given.Given.{Given}
use Rattle.instance_making.specs.declared.making.Making.{Making as CodeMaking}
use Rattle.comp_interp.specs.declared.level.Level.{Level}
use Rattle.comp_interp.specs.Completing.{plan_left, own_held, completed}
use Rattle.comp_interp.specs.Gathered.{stage_of, stages_act, AreDone, Came, Begins, ModuleComes, Makes}
use Rattle.comp_link.specs.Groups.{making_of, linked_group}
use Rattle.comp_interp.specs.Others.{other_item}
use Rattle.comp_interp.specs.Between.{IsThere, BetweenWith, Stood}
use Rattle.comp_interp.specs.Going.{whole_run, LevelsStand, GoesOn}
use Rattle.comp_interp.proofs.Completing.{completed_grows}
use Rattle.comp_interp.proofs.Holding.{entered_between}
use Rattle.comp_interp.proofs.Small.{IsSmall, small_between}
use Rattle.comp_interp.proofs.Stages.{done_then, ends_after}
use Rattle.comp_interp.proofs.Starting.{module_fits, module_between, can_start}
use Rattle.comp_interp.proofs.Steps.{IsOther}
use Rattle.comp_interp.proofs.Stepping.{nothing_between}

-- ---- what an item of the plan is

-- one that is no module and no component
pub small_of : (item : PlanItem) → IsOther item → (p : Planned) × ((ms : List (HeldValue Module)) (cs : List PlannedComponent) → plan_item ms cs item ≡ just p) × IsSmall p × ((g : Making) → other_item item g ≡ link_item p g)
small_of (items.OfModule number args) is = absurd is
small_of (items.OfComponent number first args) is = absurd is
small_of (items.OfCoreItems exports) is = (plans.OfCoreItems exports, λ ms cs. refl, tt, λ g. refl)
small_of (items.CoreItemOf sort instance name) is = (plans.CoreItemOf sort instance name, λ ms cs. refl, tt, λ g. refl)
small_of (items.OfItems exports) is = (plans.OfItems (args_named exports), λ ms cs. refl, tt, λ g. refl)
small_of (items.ItemOf sort instance name) is = (plans.ItemOf sort instance name, λ ms cs. refl, tt, λ g. refl)
small_of (items.NewResource resource destructor) is = (plans.NewResource resource destructor, λ ms cs. refl, tt, λ g. refl)
small_of (items.Lifts func options ty) is = (plans.Lifts func options ty.value, λ ms cs. refl, tt, λ g. refl)
small_of (items.Lowers func options ty) is = (plans.Lowers func options ty, λ ms cs. refl, tt, λ g. refl)
small_of (items.MakesResource resource) is = (plans.MakesResource resource, λ ms cs. refl, tt, λ g. refl)
small_of (items.DropsResource resource) is = (plans.DropsResource resource, λ ms cs. refl, tt, λ g. refl)
small_of (items.ReadsResource resource) is = (plans.ReadsResource resource, λ ms cs. refl, tt, λ g. refl)
small_of (items.Imports name item) is = (plans.Imports name (item_of item), λ ms cs. refl, tt, λ g. refl)
small_of (items.Exports name item stated) is = (plans.Exports name (item_named item) (option_map item_of stated), λ ms cs. refl, tt, λ g. refl)

module _ {S : Type 0} (h : HostStep S) (linked : Linked) (first : Moment S) (listed : List (Named Given)) (hs : List Level) (l : Level) (m : Moment S) (s : Stood h linked first listed hs l m) where
  abbrev final : Whole
  final = (making_of linked).whole

  abbrev so : Whole
  so = s.between.g.whole

  -- ---- what is still to come

  pub still_to_come : (item : Planned) (rest : Plan) → plan_left linked l ≡ Then item rest → Grows (link_item item s.between.g).whole final
  still_to_come item rest left =
      let next : Making = link_item item s.between.g in
      let linked_on : Making = link (plan_left linked l) s.between.g in
      subst (λ (x : Making). Grows next.whole x.whole) s.between.complete
      (grows_then next.whole linked_on.whole (completed linked hs s.between.gs l linked_on).whole (subst (λ p. Grows next.whole (link p s.between.g).whole) (sym left) (plan_grows rest next)) (completed_grows linked hs s.between.gs l linked_on))

  -- stages that end the run end that of all
  pub ends_all : (w : Whole) (stages : List Stage) → w.stages ≡ so.stages ++ stages → Grows w final → (new : Moment S) (stop : Stop) → Ends h (linked_group linked) (so_far m (stages_act h (linked_group linked) stages)) new stop →
      Ends h (linked_group linked) (whole_run h linked first) new stop
  ends_all w stages e grows new stop ends =
      subst (λ ss. Ends h (linked_group linked) (so_far first (stages_act h (linked_group linked) ss)) new stop)
      (sym (grows.stages_behind ∙ ap (λ ss. ss ++ grows.stages) e ∙ append_assoc so.stages stages grows.stages))
      (ends_after h (linked_group linked) so.stages stages grows.stages first m new stop s.done ends)

  pub all_done : (w : Whole) (stages : List Stage) → w.stages ≡ so.stages ++ stages → (new : Moment S) → AreDone h (linked_group linked) stages m new → AreDone h (linked_group linked) w.stages first new
  all_done w stages e new done = subst (λ ss. AreDone h (linked_group linked) ss first new) (sym e) (done_then h (linked_group linked) so.stages stages first m new s.done done)

  pub stood_by : (listed' : List (Named Given)) (hs' : List Level) (l' : Level) (new : Moment S) (w : Whole) → BetweenWith linked listed' hs' l' new w → AreDone h (linked_group linked) w.stages first new → Stood h linked first listed' hs' l' new
  stood_by listed' hs' l' new w b done = record { between = b.0; done = subst (λ (x : Whole). AreDone h (linked_group linked) x.stages first new) (sym b.1) done }

  -- ---- the level goes on

  module _ (levels' : List Level) (l' : Level) (are : levels' ≡ hs ++ l' ∷ []) (part : l'.part ≡ l.part) (begins : l'.first ≡ l.first) where
    stands : (listed' : List (Named Given)) (new : Moment S) → Stood h linked first listed' hs l' new → LevelsStand h linked first listed' levels' new
    stands listed' new stood = record { outer = hs; inner = l'; are = are; stood = stood }

    -- by an item that makes nothing
    pub goes_by_nothing : l'.making ≡ l.making → plan_left linked l' ≡ plan_left linked l → GoesOn h linked first listed levels' (Ok None) m
    goes_by_nothing making left = stands listed m (stood_by listed hs l' m so (nothing_between linked listed hs l m s.between l' part begins making left) s.done)

    -- by one that is no module and no component
    module _ (p : Planned) (left : plan_left linked l ≡ Then p (plan_left linked l')) where
      abbrev grown : Grows so (link_item p s.between.g).whole
      grown = item_grows p s.between.g

      pub goes_by_small : IsSmall p → (item : Making → Making) → item s.between.g ≡ link_item p s.between.g → (listed' : List (Named Given)) (new : Moment S) → Makes h item listed m l.making (Ok tt) listed' new l'.making →
          GoesOn h linked first listed' levels' (Ok None) new
      goes_by_small small item same listed' new makes =
          let came : Came h s.between.before grown.stages m (link_item p s.between.g) (Ok tt) new listed' l'.making =
          subst (λ x. Came h s.between.before grown.stages m x (Ok tt) new listed' l'.making) same
          (makes s.between.before s.between.g grown.stages s.between.gathers s.between.idle (ap (λ (x : Making). x.whole.stages) same ∙ grown.stages_behind)) in
          stands listed' new
          (stood_by listed' hs l' new (link_item p s.between.g).whole (small_between linked listed listed' hs l l' m new s.between p part begins left small came.0)
          (all_done (link_item p s.between.g).whole grown.stages grown.stages_behind new (came.1 (linked_group linked))))

      pub small_ends : (item : Making → Making) → item s.between.g ≡ link_item p s.between.g → (listed' : List (Named Given)) (new : Moment S) (lm : CodeMaking) (stop : Stop) → Makes h item listed m l.making (Err stop) listed' new lm →
          Ends h (linked_group linked) (whole_run h linked first) new stop
      small_ends item same listed' new lm stop makes =
          ends_all (link_item p s.between.g).whole grown.stages grown.stages_behind (still_to_come p (plan_left linked l') left) new stop
          (makes s.between.before s.between.g grown.stages s.between.gathers s.between.idle (ap (λ (x : Making). x.whole.stages) same ∙ grown.stages_behind) (linked_group linked))

    -- by a module
    module _ (module' : Module) (args : List CoreArg) (left : plan_left linked l ≡ Then (plans.OfModule module' args) (plan_left linked l')) where
      abbrev made_so : Making
      made_so = link_item (plans.OfModule module' args) s.between.g

      pub goes_by_module : (listed' : List (Named Given)) (new : Moment S) → ModuleComes h module' args listed m l.making (Ok tt) listed' new l'.making → GoesOn h linked first listed' levels' (Ok None) new
      goes_by_module listed' new comes =
          let came = comes s.between.before s.between.g (linked_group linked) s.between.gathers s.between.idle (module_fits linked listed hs l l' m s.between module' args part begins left) (can_start linked listed hs l l' m s.between module' args part begins left h) in
          stands listed' new
          (stood_by listed' hs l' new made_so.whole (module_between linked listed hs l l' m s.between module' args part begins left new listed' l'.making came.0)
          (all_done made_so.whole (stage_of s.between.g module' args ∷ []) refl new came.1))

      pub module_ends : (listed' : List (Named Given)) (new : Moment S) (lm : CodeMaking) (stop : Stop) → ModuleComes h module' args listed m l.making (Err stop) listed' new lm → Ends h (linked_group linked) (whole_run h linked first) new stop
      module_ends listed' new lm stop comes =
          ends_all made_so.whole (stage_of s.between.g module' args ∷ []) refl (still_to_come (plans.OfModule module' args) (plan_left linked l') left) new stop
          (comes s.between.before s.between.g (linked_group linked) s.between.gathers s.between.idle (module_fits linked listed hs l l' m s.between module' args part begins left) (can_start linked listed hs l l' m s.between module' args part begins left h))

  -- ---- a component begins to be made

  module _ (holder : Level) (part : holder.part ≡ l.part) (begins : holder.first ≡ l.first) (making : holder.making ≡ l.making) (plan : Plan) (own : List (ℕ × ℕ)) (args : List NamedArg)
      (left : plan_left linked l ≡ Then (plans.OfComponent plan own args) (plan_left linked holder)) where
    abbrev entered : Making
    entered = begun (and_stage so BeginsStage) (givens_of s.between.g args)

    entered_to_come : Grows entered.whole final
    entered_to_come =
        let next : Making = link_item (plans.OfComponent plan own args) s.between.g in
        grows_then entered.whole next.whole final (plan_grows plan entered) (still_to_come (plans.OfComponent plan own args) (plan_left linked holder) left)

    pub goes_in : (inner : Level) → plan_left linked inner ≡ plan → own_held linked inner ≡ own → IsThere linked inner → (levels' : List Level) → levels' ≡ (hs ++ holder ∷ []) ++ inner ∷ [] → (listed' : List (Named Given)) (new : Moment S) →
        Begins h args listed m l.making (Ok inner) listed' new → GoesOn h linked first listed' levels' (Ok None) new
    goes_in inner its_plan its_own there levels' are listed' new comes =
        let came = comes s.between.before s.between.g s.between.gathers s.between.idle in
        record {
          outer = hs ++ holder ∷ [];
          inner = inner;
          are = are;
          stood = stood_by listed' (hs ++ holder ∷ []) inner new entered.whole (entered_between linked listed listed' hs l holder inner m new s.between part begins making plan own args left its_plan its_own there came.0)
              (all_done entered.whole (BeginsStage ∷ []) refl new (came.1 (linked_group linked)));
        }

    pub enters_ends : (listed' : List (Named Given)) (new : Moment S) (stop : Stop) → Begins h args listed m l.making (Err stop) listed' new → Ends h (linked_group linked) (whole_run h linked first) new stop
    enters_ends listed' new stop comes = ends_all entered.whole (BeginsStage ∷ []) refl entered_to_come new stop (comes (linked_group linked))
