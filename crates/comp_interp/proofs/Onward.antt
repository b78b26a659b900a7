-- The innermost level goes on by the item that is next in its plan.
use Rattle.std.proofs.Common.{◌≡◌, ◌∙◌, ap, sym, refl, subst, ℕ, ◌+◌, ◌≤◌, ◌<◌, List, [], ◌∷◌, ◌++◌, length, Option, Some, None, Result, Ok, Err, IsErrAnd, arith, slice_get}
use Rattle.wasm_ast.specs.Boxed.{Held as HeldValue}
use Rattle.wasm_ast.specs.declared.module.Module.{Module}
use Rattle.wasm_ast.specs.declared.component.CoreArg.{CoreArg}
use Rattle.host_port.specs.Hosts.{HostStep}
use Rattle.comp_types.specs.GivenResources.{numbered}
use Rattle.comp_link.specs.Plans.{Plan, Planned, Then, OfModule, OfComponent, followed, if_some}
use Rattle.comp_link.specs.declared.items.PlanArg.{PlanArg}
use Rattle.comp_link.specs.declared.items.PlanItem.{PlanItem}
use Rattle.comp_link.specs.declared.items.PlanItem.TheVariants as items
use Rattle.comp_link.specs.declared.linked.Linked.{Linked}
use Rattle.comp_link.specs.Groups.{linked_group}
use Rattle.comp_link.specs.Planned.{PlannedComponent, args_named, plan_item}
use Rattle.comp_link.proofs.Earlier.{none_behind}
use Rattle.call_moments.specs.declared.end.Stop.{Stop}
use Rattle.call_moments.specs.Leads.{Moment, Ends}
use Rattle.instance_making.specs.declared.named.Named.{Named}
use Rattle.instance_making.specs.declared.given.Given.{Given}
use Rattle.instance_making.specs.declared.making.Making.{Making as CodeMaking}
use Rattle.comp_interp.specs.declared.level.Level.{Level}
use Rattle.comp_interp.specs.declared.part.Part.{Part}
use Rattle.comp_interp.specs.declared.part.Part.TheVariants.{Held}
use Rattle.comp_interp.specs.Parts.{part_items, part_own, part_limit, part_plan, named_below}
use Rattle.comp_interp.specs.Completing.{plan_left, own_held}
use Rattle.comp_interp.specs.Gathered.{Begins, Makes}
use Rattle.comp_interp.specs.Others.{other_item}
use Rattle.comp_interp.specs.Between.{Stood}
use Rattle.comp_interp.specs.Going.{IsNothing, ModuleIf, IsEntered, ItemComes, whole_run, GoesOn}
use Rattle.comp_interp.proofs.Completing.{left_behind}
use Rattle.comp_interp.proofs.Going.{small_of, goes_by_nothing, goes_by_small, small_ends, goes_by_module, module_ends, goes_in, enters_ends}
use Rattle.comp_interp.proofs.Steps.{IsOther, component_plan, component_there}

-- of a component that begins to be made nothing is made yet
entered_left : (linked : Linked) (inner : Level) (number : ℕ) → inner.part ≡ Held number → inner.at ≡ 0 → plan_left linked inner ≡ part_plan linked (Held number)
entered_left linked inner number part at = go inner.part part inner.at at
  where
    left : Part → ℕ → Plan
    left p n = plan_left linked (record inner { part = p; at = n })

    go : (p : Part) → p ≡ Held number → (n : ℕ) → n ≡ 0 → left p n ≡ part_plan linked (Held number)
    go p is n zero' = ap (λ q. left q n) is ∙ ap (left (Held number)) zero'

entered_own : (linked : Linked) (inner : Level) (number first : ℕ) → inner.part ≡ Held number → inner.first ≡ first → own_held linked inner ≡ numbered (part_own linked (Held number)) first
entered_own linked inner number first part is = ap (λ p. numbered (part_own linked p) inner.first) part ∙ ap (numbered (part_own linked (Held number))) is

module _ {S : Type 0} (h : HostStep S) (linked : Linked) (first : Moment S) (listed : List (Named Given)) (hs : List Level) (l : Level) (m : Moment S) (s : Stood h linked first listed hs l m)
    (item : PlanItem) (here : slice_get (part_items linked l.part) l.at ≡ Some item) where
  abbrev limit : ℕ
  limit = part_limit linked l.part

  abbrev its_plan : Plan
  its_plan = plan_item linked.modules (named_below linked limit) item

  module _ (l' : Level) (part : l'.part ≡ l.part) (at : l'.at ≡ l.at + 1) (begins : l'.first ≡ l.first) where
    left : plan_left linked l ≡ followed its_plan (plan_left linked l')
    left = left_behind linked l l' item here part at

    -- ---- what is no module and no component

    module _ (other : IsOther item) where
      abbrev p : Planned
      p = (small_of item other).0

      left_so : plan_left linked l ≡ Then p (plan_left linked l')
      left_so = left ∙ ap (λ q. followed q (plan_left linked l')) ((small_of item other).1 linked.modules (named_below linked limit))

      pub small_on : (listed' : List (Named Given)) (levels' : List Level) (new : Moment S) → levels' ≡ hs ++ l' ∷ [] → Makes h (other_item item) listed m l.making (Ok tt) listed' new l'.making → GoesOn h linked first listed' levels' (Ok None) new
      small_on listed' levels' new are makes = goes_by_small h linked first listed hs l m s levels' l' are part begins p left_so (small_of item other).2 (other_item item) ((small_of item other).3 s.between.g) listed' new makes

      pub small_over : (listed' : List (Named Given)) (new : Moment S) (stop : Stop) → Makes h (other_item item) listed m l.making (Err stop) listed' new l'.making → Ends h (linked_group linked) (whole_run h linked first) new stop
      small_over listed' new stop makes = small_ends h linked first listed hs l m s (hs ++ l' ∷ []) l' refl part begins p left_so (other_item item) ((small_of item other).3 s.between.g) listed' new l'.making stop makes

    -- ---- nothing

    nothing_on : (listed' : List (Named Given)) (levels' : List Level) (new : Moment S) → levels' ≡ hs ++ l' ∷ [] → plan_left linked l ≡ plan_left linked l' → IsNothing listed m l.making listed' new l'.making → GoesOn h linked first listed' levels' (Ok None) new
    nothing_on listed' levels' new are same is =
        subst (λ x. GoesOn h linked first listed' levels' (Ok None) x) (sym is.1) (subst (λ xs. GoesOn h linked first xs levels' (Ok None) m) (sym is.0) (goes_by_nothing h linked first listed hs l m s levels' l' are part begins is.2 (sym same)))

    -- ---- a module

    module _ (number : ℕ) (args : List CoreArg) (is : item ≡ items.OfModule number args) where
      module_left : plan_left linked l ≡ followed (if_some (λ (k : HeldValue Module). OfModule k.value args) (slice_get linked.modules number)) (plan_left linked l')
      module_left = left ∙ ap (λ i. followed (plan_item linked.modules (named_below linked limit) i) (plan_left linked l')) is

      pub module_on : (listed' : List (Named Given)) (levels' : List Level) (new : Moment S) → levels' ≡ hs ++ l' ∷ [] → ModuleIf h (slice_get linked.modules number) args listed m l.making (Ok tt) listed' new l'.making →
          GoesOn h linked first listed' levels' (Ok None) new
      module_on listed' levels' new are comes = go (slice_get linked.modules number) module_left comes
        where
          go : (o : Option (HeldValue Module)) → plan_left linked l ≡ followed (if_some (λ (k : HeldValue Module). OfModule k.value args) o) (plan_left linked l') → ModuleIf h o args listed m l.making (Ok tt) listed' new l'.making → GoesOn h linked first listed' levels' (Ok None) new
          go None e c = nothing_on listed' levels' new are e c
          go (Some k) e c = goes_by_module h linked first listed hs l m s levels' l' are part begins k.value args e listed' new c

      pub module_over : (listed' : List (Named Given)) (new : Moment S) (stop : Stop) → ModuleIf h (slice_get linked.modules number) args listed m l.making (Err stop) listed' new l'.making → Ends h (linked_group linked) (whole_run h linked first) new stop
      module_over listed' new stop comes = go (slice_get linked.modules number) module_left comes
        where
          go : (o : Option (HeldValue Module)) → plan_left linked l ≡ followed (if_some (λ (k : HeldValue Module). OfModule k.value args) o) (plan_left linked l') → ModuleIf h o args listed m l.making (Err stop) listed' new l'.making → Ends h (linked_group linked) (whole_run h linked first) new stop
          go None e c = absurd c
          go (Some k) e c = module_ends h linked first listed hs l m s (hs ++ l' ∷ []) l' refl part begins k.value args e listed' new l'.making stop c

    -- ---- a component

    module _ (number from : ℕ) (args : List PlanArg) (is : item ≡ items.OfComponent number from args) where
      component_left : plan_left linked l ≡ followed (plan_item linked.modules (named_below linked limit) (items.OfComponent number from args)) (plan_left linked l')
      component_left = left ∙ ap (λ i. followed (plan_item linked.modules (named_below linked limit) i) (plan_left linked l')) is

      entered_so : number < limit → plan_left linked l ≡ Then (OfComponent (part_plan linked (Held number)) (numbered (part_own linked (Held number)) from) (args_named args)) (plan_left linked l')
      entered_so lt =
          let c = component_there linked limit number lt s.between.there in
          component_left ∙ ap (λ q. followed q (plan_left linked l')) (component_plan linked limit number from args c.0 lt c.1)

      pub component_none : (listed' : List (Named Given)) (levels' : List Level) (new : Moment S) → levels' ≡ hs ++ l' ∷ [] → (limit ≤ number) × IsNothing listed m l.making listed' new l'.making → GoesOn h linked first listed' levels' (Ok None) new
      component_none listed' levels' new are comes =
          let past : limit ≤ number = comes.0 in
          nothing_on listed' levels' new are
          (component_left
          ∙ ap (λ o. followed (if_some (λ (x : PlannedComponent). OfComponent x.plan (numbered x.own from) (args_named args)) o) (plan_left linked l')) (none_behind linked.modules linked.components number limit (λ lt. omega (arith, lt, past))))
          comes.1

      pub component_on : (inner : Level) (listed' : List (Named Given)) (levels' : List Level) (new : Moment S) → levels' ≡ (hs ++ l' ∷ []) ++ inner ∷ [] →
          IsEntered limit number from inner × Begins h (args_named args) listed m l.making (Ok inner) listed' new × (l'.making ≡ l.making) → GoesOn h linked first listed' levels' (Ok None) new
      component_on inner listed' levels' new are comes =
          let e = comes.0 in
          let less : number < limit = e.named in
          let all : limit ≤ length linked.components = s.between.there in
          goes_in h linked first listed hs l m s l' part begins comes.2 (part_plan linked (Held number)) (numbered (part_own linked (Held number)) from) (args_named args) (entered_so e.named) inner
          (entered_left linked inner number e.part e.at) (entered_own linked inner number from e.part e.first) (subst (λ q. part_limit linked q ≤ length linked.components) (sym e.part) (omega (arith, less, all))) levels' are listed' new comes.1

      pub component_over : (listed' : List (Named Given)) (new : Moment S) (stop : Stop) → (l'.making ≡ l.making) → (number < limit) × Begins h (args_named args) listed m l.making (Err stop) listed' new → Ends h (linked_group linked) (whole_run h linked first) new stop
      component_over listed' new stop making comes =
          enters_ends h linked first listed hs l m s l' part begins making (part_plan linked (Held number)) (numbered (part_own linked (Held number)) from) (args_named args) (entered_so comes.0) listed' new stop comes.1

-- ---- whatever the item is

module _ {S : Type 0} (h : HostStep S) (linked : Linked) (first : Moment S) (listed : List (Named Given)) (hs : List Level) (l : Level) (m : Moment S) (s : Stood h linked first listed hs l m) where
  pub item_over : (item : PlanItem) → slice_get (part_items linked l.part) l.at ≡ Some item → (listed' : List (Named Given)) (new : Moment S) (lm : CodeMaking) (stop : Stop) → ItemComes h (part_limit linked l.part) linked item listed m l.making (Err stop) listed' new lm →
      Ends h (linked_group linked) (whole_run h linked first) new stop
  item_over (items.OfModule number args) here listed' new lm stop c = module_over h linked first listed hs l m s (items.OfModule number args) here (record l { at = l.at + 1; making = lm }) refl refl refl number args refl listed' new stop c
  item_over (items.OfComponent number from args) here listed' new lm stop c = component_over h linked first listed hs l m s (items.OfComponent number from args) here (record l { at = l.at + 1 }) refl refl refl number from args refl listed' new stop refl c
  item_over (items.OfCoreItems exports) here listed' new lm stop c = small_over h linked first listed hs l m s (items.OfCoreItems exports) here (record l { at = l.at + 1; making = lm }) refl refl refl tt listed' new stop c
  item_over (items.CoreItemOf sort instance name) here listed' new lm stop c = small_over h linked first listed hs l m s (items.CoreItemOf sort instance name) here (record l { at = l.at + 1; making = lm }) refl refl refl tt listed' new stop c
  item_over (items.OfItems exports) here listed' new lm stop c = small_over h linked first listed hs l m s (items.OfItems exports) here (record l { at = l.at + 1; making = lm }) refl refl refl tt listed' new stop c
  item_over (items.ItemOf sort instance name) here listed' new lm stop c = small_over h linked first listed hs l m s (items.ItemOf sort instance name) here (record l { at = l.at + 1; making = lm }) refl refl refl tt listed' new stop c
  item_over (items.NewResource resource destructor) here listed' new lm stop c = small_over h linked first listed hs l m s (items.NewResource resource destructor) here (record l { at = l.at + 1; making = lm }) refl refl refl tt listed' new stop c
  item_over (items.Lifts func options ty) here listed' new lm stop c = small_over h linked first listed hs l m s (items.Lifts func options ty) here (record l { at = l.at + 1; making = lm }) refl refl refl tt listed' new stop c
  item_over (items.Lowers func options ty) here listed' new lm stop c = small_over h linked first listed hs l m s (items.Lowers func options ty) here (record l { at = l.at + 1; making = lm }) refl refl refl tt listed' new stop c
  item_over (items.MakesResource resource) here listed' new lm stop c = small_over h linked first listed hs l m s (items.MakesResource resource) here (record l { at = l.at + 1; making = lm }) refl refl refl tt listed' new stop c
  item_over (items.DropsResource resource) here listed' new lm stop c = small_over h linked first listed hs l m s (items.DropsResource resource) here (record l { at = l.at + 1; making = lm }) refl refl refl tt listed' new stop c
  item_over (items.ReadsResource resource) here listed' new lm stop c = small_over h linked first listed hs l m s (items.ReadsResource resource) here (record l { at = l.at + 1; making = lm }) refl refl refl tt listed' new stop c
  item_over (items.Imports name item) here listed' new lm stop c = small_over h linked first listed hs l m s (items.Imports name item) here (record l { at = l.at + 1; making = lm }) refl refl refl tt listed' new stop c
  item_over (items.Exports name item stated) here listed' new lm stop c = small_over h linked first listed hs l m s (items.Exports name item stated) here (record l { at = l.at + 1; making = lm }) refl refl refl tt listed' new stop c

  pub item_ends : (item : PlanItem) → slice_get (part_items linked l.part) l.at ≡ Some item → (listed' : List (Named Given)) (levels' : List Level) (new : Moment S) (lm : CodeMaking) (stop : Stop) (result : Result (Option (Named Given)) Stop) → IsErrAnd result (λ x. x ≡ stop) →
      ItemComes h (part_limit linked l.part) linked item listed m l.making (Err stop) listed' new lm → GoesOn h linked first listed' levels' result new
  item_ends item here listed' levels' new lm stop (Ok o) e c = absurd e
  item_ends item here listed' levels' new lm stop (Err x) e c = subst (λ y. Ends h (linked_group linked) (whole_run h linked first) new y) (sym e) (item_over item here listed' new lm stop c)

  module _ (l' : Level) (part : l'.part ≡ l.part) (at : l'.at ≡ l.at + 1) (begins : l'.first ≡ l.first) (listed' : List (Named Given)) (levels' : List Level) (new : Moment S) where
    pub item_on : (item : PlanItem) → slice_get (part_items linked l.part) l.at ≡ Some item → levels' ≡ hs ++ l' ∷ [] → ItemComes h (part_limit linked l.part) linked item listed m l.making (Ok None) listed' new l'.making → GoesOn h linked first listed' levels' (Ok None) new
    item_on (items.OfModule number args) here are c = module_on h linked first listed hs l m s (items.OfModule number args) here l' part at begins number args refl listed' levels' new are c
    item_on (items.OfComponent number from args) here are c = component_none h linked first listed hs l m s (items.OfComponent number from args) here l' part at begins number from args refl listed' levels' new are c
    item_on (items.OfCoreItems exports) here are c = small_on h linked first listed hs l m s (items.OfCoreItems exports) here l' part at begins tt listed' levels' new are c
    item_on (items.CoreItemOf sort instance name) here are c = small_on h linked first listed hs l m s (items.CoreItemOf sort instance name) here l' part at begins tt listed' levels' new are c
    item_on (items.OfItems exports) here are c = small_on h linked first listed hs l m s (items.OfItems exports) here l' part at begins tt listed' levels' new are c
    item_on (items.ItemOf sort instance name) here are c = small_on h linked first listed hs l m s (items.ItemOf sort instance name) here l' part at begins tt listed' levels' new are c
    item_on (items.NewResource resource destructor) here are c = small_on h linked first listed hs l m s (items.NewResource resource destructor) here l' part at begins tt listed' levels' new are c
    item_on (items.Lifts func options ty) here are c = small_on h linked first listed hs l m s (items.Lifts func options ty) here l' part at begins tt listed' levels' new are c
    item_on (items.Lowers func options ty) here are c = small_on h linked first listed hs l m s (items.Lowers func options ty) here l' part at begins tt listed' levels' new are c
    item_on (items.MakesResource resource) here are c = small_on h linked first listed hs l m s (items.MakesResource resource) here l' part at begins tt listed' levels' new are c
    item_on (items.DropsResource resource) here are c = small_on h linked first listed hs l m s (items.DropsResource resource) here l' part at begins tt listed' levels' new are c
    item_on (items.ReadsResource resource) here are c = small_on h linked first listed hs l m s (items.ReadsResource resource) here l' part at begins tt listed' levels' new are c
    item_on (items.Imports name item) here are c = small_on h linked first listed hs l m s (items.Imports name item) here l' part at begins tt listed' levels' new are c
    item_on (items.Exports name item stated) here are c = small_on h linked first listed hs l m s (items.Exports name item stated) here l' part at begins tt listed' levels' new are c

    pub item_in : (item : PlanItem) → slice_get (part_items linked l.part) l.at ≡ Some item → (inner : Level) → levels' ≡ (hs ++ l' ∷ []) ++ inner ∷ [] → ItemComes h (part_limit linked l.part) linked item listed m l.making (Ok (Some inner)) listed' new l'.making →
        GoesOn h linked first listed' levels' (Ok None) new
    item_in (items.OfComponent number from args) here inner are c = component_on h linked first listed hs l m s (items.OfComponent number from args) here l' part at begins number from args refl inner listed' levels' new are c
    item_in (items.OfModule number args) here inner are c = absurd c
    item_in (items.OfCoreItems exports) here inner are c = absurd c
    item_in (items.CoreItemOf sort instance name) here inner are c = absurd c
    item_in (items.OfItems exports) here inner are c = absurd c
    item_in (items.ItemOf sort instance name) here inner are c = absurd c
    item_in (items.NewResource resource destructor) here inner are c = absurd c
    item_in (items.Lifts func options ty) here inner are c = absurd c
    item_in (items.Lowers func options ty) here inner are c = absurd c
    item_in (items.MakesResource resource) here inner are c = absurd c
    item_in (items.DropsResource resource) here inner are c = absurd c
    item_in (items.ReadsResource resource) here inner are c = absurd c
    item_in (items.Imports name item) here inner are c = absurd c
    item_in (items.Exports name item stated) here inner are c = absurd c
