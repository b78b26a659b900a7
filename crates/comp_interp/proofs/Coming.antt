-- What comes of an item, by what the item is.
use Rattle.std.proofs.Common.{◌≡◌, sym, refl, subst, ℕ, ◌<◌, List, Option, Some, None, false, true, Result, Ok, Err, IsErr, IsErrAnd, IfOk, slice_get}
use Rattle.std.specs.Option.{option_map}
use Rattle.wasm_ast.specs.Boxed.{Held as HeldValue}
use Rattle.wasm_ast.specs.declared.module.Module.{Module}
use Rattle.wasm_ast.specs.declared.component.CoreArg.{CoreArg}
use Rattle.host_port.specs.Hosts.{HostStep}
use Rattle.comp_link.specs.declared.items.PlanArg.{PlanArg}
use Rattle.comp_link.specs.declared.items.PlanItem.{PlanItem}
use Rattle.comp_link.specs.declared.items.PlanItem.TheVariants as items
use Rattle.comp_link.specs.declared.linked.Linked.{Linked}
use Rattle.comp_link.specs.Planned.{args_named}
use Rattle.call_moments.specs.declared.end.Stop.{Stop}
use Rattle.call_moments.specs.Leads.{Moment}
use Rattle.instance_making.specs.declared.named.Named.{Named}
use Rattle.instance_making.specs.declared.given.Given.{Given}
use Rattle.instance_making.specs.declared.making.Making.{Making as CodeMaking}
use Rattle.comp_interp.specs.declared.level.Level.{Level}
use Rattle.comp_interp.specs.Gathered.{Begins, ModuleComes, Makes}
use Rattle.comp_interp.specs.Others.{other_item}
use Rattle.comp_interp.specs.Going.{ModuleIf, IsEntered, ItemComes}

-- nothing is said of an answer that there is not
pub not_ok : {A E : Type 0} → (P : A → Type 0) (r : Result A E) → IsErr r → IfOk r P
not_ok P (Ok a) e = absurd (let q : false ≡ true = e in cc)
not_ok P (Err x) e = tt

pub if_ok : {A E : Type 0} → {P Q : A → Type 0} → (r : Result A E) → ((a : A) → P a → Q a) → IfOk r P → IfOk r Q
if_ok (Ok a) by h = by a h
if_ok (Err x) by h = tt

module _ {S : Type 0} (h : HostStep S) (limit : ℕ) (linked : Linked) (listed listed' : List (Named Given)) (old new : Moment S) (l l' : CodeMaking) where
  -- a component
  module _ (item : PlanItem) (number first : ℕ) (args : List PlanArg) (is : item ≡ items.OfComponent number first args) (named : number < limit) where
    pub component_comes : (inner : Level) → IsEntered limit number first inner → Begins h (args_named args) listed old l (Ok inner) listed' new → ItemComes h limit linked item listed old l (Ok (Some inner)) listed' new l
    component_comes inner entered begins = subst (λ i. ItemComes h limit linked i listed old l (Ok (Some inner)) listed' new l) (sym is) (entered, begins, refl)

    pub component_fails : (stop : Stop) (result : Result (Option Level) Stop) → IsErrAnd result (λ s. s ≡ stop) → Begins h (args_named args) listed old l (Err stop) listed' new → ItemComes h limit linked item listed old l result listed' new l'
    component_fails stop (Ok o) e begins = absurd e
    component_fails stop (Err s) e begins = subst (λ i. ItemComes h limit linked i listed old l (Err s) listed' new l') (sym is) (named, subst (λ x. Begins h (args_named args) listed old l (Err x) listed' new) (sym e) begins)

  -- a module
  module_if : (o : Option (HeldValue Module)) (k : Module) (args : List CoreArg) (stop : Stop) → Some k ≡ option_map (λ (m : HeldValue Module). m.value) o → ModuleComes h k args listed old l (Err stop) listed' new l' → ModuleIf h o args listed old l (Err stop) listed' new l'
  module_if None k args stop e c = absurd (cc)
  module_if (Some m) k args stop e c = let same : k ≡ m.value = cc in subst (λ x. ModuleComes h x args listed old l (Err stop) listed' new l') same c

  pub module_fails : (item : PlanItem) (number : ℕ) (args : List CoreArg) → item ≡ items.OfModule number args → (k : Module) → Some k ≡ option_map (λ (m : HeldValue Module). m.value) (slice_get linked.modules number) → (stop : Stop) (result : Result (Option Level) Stop) → IsErrAnd result (λ s. s ≡ stop) →
      ModuleComes h k args listed old l (Err stop) listed' new l' → ItemComes h limit linked item listed old l result listed' new l'
  module_fails item number args is k there stop (Ok o) e c = absurd e
  module_fails item number args is k there stop (Err s) e c =
      subst (λ i. ItemComes h limit linked i listed old l (Err s) listed' new l') (sym is)
      (module_if (slice_get linked.modules number) k args s there (subst (λ x. ModuleComes h k args listed old l (Err x) listed' new l') (sym e) c))

  -- any other item
  pub other_comes : (item : PlanItem) → ((number : ℕ) (args : List CoreArg) → item ≡ items.OfModule number args → ⊥) → ((number first : ℕ) (args : List PlanArg) → item ≡ items.OfComponent number first args → ⊥) →
      Makes h (other_item item) listed old l (Ok tt) listed' new l' → ItemComes h limit linked item listed old l (Ok None) listed' new l'
  other_comes (items.OfModule number args) a b c = absurd (a number args refl)
  other_comes (items.OfComponent number first args) a b c = absurd (b number first args refl)
  other_comes (items.OfCoreItems exports) a b c = c
  other_comes (items.CoreItemOf sort instance name) a b c = c
  other_comes (items.OfItems exports) a b c = c
  other_comes (items.ItemOf sort instance name) a b c = c
  other_comes (items.NewResource resource destructor) a b c = c
  other_comes (items.Lifts func options ty) a b c = c
  other_comes (items.Lowers func options ty) a b c = c
  other_comes (items.MakesResource resource) a b c = c
  other_comes (items.DropsResource resource) a b c = c
  other_comes (items.ReadsResource resource) a b c = c
  other_comes (items.Imports name item) a b c = c
  other_comes (items.Exports name item stated) a b c = c

  other_stops : (item : PlanItem) (stop : Stop) → ((number : ℕ) (args : List CoreArg) → item ≡ items.OfModule number args → ⊥) → ((number first : ℕ) (args : List PlanArg) → item ≡ items.OfComponent number first args → ⊥) →
      Makes h (other_item item) listed old l (Err stop) listed' new l' → ItemComes h limit linked item listed old l (Err stop) listed' new l'
  other_stops (items.OfModule number args) stop a b c = absurd (a number args refl)
  other_stops (items.OfComponent number first args) stop a b c = absurd (b number first args refl)
  other_stops (items.OfCoreItems exports) stop a b c = c
  other_stops (items.CoreItemOf sort instance name) stop a b c = c
  other_stops (items.OfItems exports) stop a b c = c
  other_stops (items.ItemOf sort instance name) stop a b c = c
  other_stops (items.NewResource resource destructor) stop a b c = c
  other_stops (items.Lifts func options ty) stop a b c = c
  other_stops (items.Lowers func options ty) stop a b c = c
  other_stops (items.MakesResource resource) stop a b c = c
  other_stops (items.DropsResource resource) stop a b c = c
  other_stops (items.ReadsResource resource) stop a b c = c
  other_stops (items.Imports name item) stop a b c = c
  other_stops (items.Exports name item stated) stop a b c = c

  pub other_fails : (item : PlanItem) (stop : Stop) (result : Result (Option Level) Stop) → ((number : ℕ) (args : List CoreArg) → item ≡ items.OfModule number args → ⊥) → ((number first : ℕ) (args : List PlanArg) → item ≡ items.OfComponent number first args → ⊥) →
      IsErrAnd result (λ s. s ≡ stop) → Makes h (other_item item) listed old l (Err stop) listed' new l' → ItemComes h limit linked item listed old l result listed' new l'
  other_fails item stop (Ok o) a b e c = absurd e
  other_fails item stop (Err s) a b e c = other_stops item s a b (subst (λ x. Makes h (other_item item) listed old l (Err x) listed' new l') (sym e) c)
