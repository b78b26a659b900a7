-- What is sound of a plan is sound of its items, and of the components that it names.
use Rattle.std.proofs.Common.{◌≡◌, ◌∙◌, ◌<◌, sym, subst, refl, ℕ, zero, suc, List, [], ◌∷◌, ◌++◌, Option, Some, None, slice_get}
use Rattle.std.specs.Prelude.{option_map}
use Rattle.std.proofs.Math.Seq.{take-length}
use Rattle.wasm_ast.specs.Boxed.{Held as HeldValue}
use Rattle.wasm_ast.specs.declared.module.Module.{Module}
use Rattle.core_validate.specs.Validity.{IsValidModule}
use Rattle.core_instance.specs.Matching.{HasCounts}
use Rattle.comp_types.specs.GivenResources.{numbered}
use Rattle.comp_link.specs.Plans.{NamedArg, Plan, Planned, End, Then, followed, if_some}
use Rattle.comp_link.specs.Plans.{OfModule, OfCoreItems, CoreItemOf, OfComponent, OfItems, ItemOf, NewResource, Lifts, Lowers, MakesResource, ReadsResource, DropsResource, Imports, Exports, plan_of}
use Rattle.comp_link.specs.Linking.{Making, begun, and_stage, givens_of}
use Rattle.comp_worlds.specs.Groups.{Begins}
use Rattle.comp_link.specs.declared.items.PlanItem.{PlanItem}
use Rattle.comp_link.specs.declared.items.PlanItem.TheVariants as items
use Rattle.comp_link.specs.declared.linked.ComponentPlan.{ComponentPlan}
use Rattle.comp_link.specs.declared.linked.Linked.{Linked}
use Rattle.comp_link.specs.Planned.{PlannedComponent, args_named, plan_item, plan_items, planned_component, and_components, plan_in}
use Rattle.comp_link.proofs.Earlier.{component_at, component_before}
use Rattle.comp_link.proofs.Spelled.{spelled_define}
use Rattle.comp_joins.specs.Sound.{IsSoundItem as FitsItem, IsSoundPlan, at_first}
use Rattle.comp_joins.proofs.Spelled.{spelled_count}
use Rattle.comp_joins.proofs.SoundMade.{linked_sound}
use Rattle.comp_joins.specs.Known.{PlanNamesKnown}
use Rattle.comp_joins.proofs.Known.{names_known}
use Rattle.comp_interp.specs.declared.part.Part.{Part}
use Rattle.comp_interp.specs.declared.part.Part.TheVariants.{Whole, Held}
use Rattle.comp_interp.specs.declared.level.Level.{Level}
use Rattle.comp_interp.specs.Sound.{HasSoundModule, HasSoundModules, CanBeMade, LinkedCanBeMade}
use Rattle.comp_interp.specs.Parts.{items_if, part_items, part_limit, named_below, IsSoundPart, IsSoundItem}
use Rattle.comp_interp.specs.Levels.{AreSound, Begun}

-- ---- items

parts : (p q : Plan) → HasSoundModules (followed p q) → HasSoundModules p × HasSoundModules q
parts End q h = (tt, h)
parts (Then item rest) q h = let r = parts rest q h.1 in ((h.0, r.0), r.1)

-- the item at a place
one : (ms : List (HeldValue Module)) (cs : List PlannedComponent) (xs : List PlanItem) (at : ℕ) (item : PlanItem) → HasSoundModules (plan_items ms cs xs) → slice_get xs at ≡ Some item → HasSoundModules (plan_item ms cs item)
one ms cs [] at item h e = absurd (cc)
one ms cs (x ∷ xs) zero item h e = let same : x ≡ item = cc in subst (λ i. HasSoundModules (plan_item ms cs i)) same (parts (plan_item ms cs x) (plan_items ms cs xs) h).0
one ms cs (x ∷ xs) (suc at) item h e = one ms cs xs at item (parts (plan_item ms cs x) (plan_items ms cs xs) h).1 e

module_sound : (number : Option (HeldValue Module)) (args : _) (m : HeldValue Module) → HasSoundModules (if_some (λ (k : HeldValue Module). OfModule k.value args) number) → number ≡ Some m → IsValidModule m.value × HasCounts m.value
module_sound number args m h e = (subst (λ o. HasSoundModules (if_some (λ (k : HeldValue Module). OfModule k.value args) o)) e h).0

abbrev of_component : ℕ → List NamedArg → PlannedComponent → Planned
of_component first args c = OfComponent c.plan (numbered c.own first) args

held : (ms : List (HeldValue Module)) (cs : List PlannedComponent) (first : ℕ) (args : List NamedArg) (c : Option ComponentPlan) → HasSoundModules (if_some (of_component first args) (option_map (planned_component ms cs) c)) → HasSoundModules (plan_items ms cs (items_if c))
held ms cs first args None h = tt
held ms cs first args (Some c) h = h.0

component_sound : (linked : Linked) (limit number first : ℕ) (args : List NamedArg) → HasSoundModules (if_some (of_component first args) (slice_get (named_below linked limit) number)) → number < limit → IsSoundPart linked (Held number)
component_sound linked limit number first args h lt =
    held linked.modules (named_below linked number) first args (slice_get linked.components number)
    (subst (λ o. HasSoundModules (if_some (of_component first args) o)) (component_before linked.modules linked.components number limit lt ∙ component_at linked.modules linked.components number) h)

of_item : (linked : Linked) (limit : ℕ) (item : PlanItem) → HasSoundModules (plan_item linked.modules (named_below linked limit) item) → IsSoundItem linked limit item
of_item linked limit (items.OfModule number args) h = λ m e. module_sound (slice_get linked.modules number) args m h e
of_item linked limit (items.OfComponent number first args) h = λ lt. component_sound linked limit number first (args_named args) h lt
of_item linked limit (items.OfCoreItems exports) h = tt
of_item linked limit (items.CoreItemOf sort instance name) h = tt
of_item linked limit (items.OfItems exports) h = tt
of_item linked limit (items.ItemOf sort instance name) h = tt
of_item linked limit (items.NewResource resource destructor) h = tt
of_item linked limit (items.Lifts func options ty) h = tt
of_item linked limit (items.Lowers func options ty) h = tt
of_item linked limit (items.MakesResource resource) h = tt
of_item linked limit (items.DropsResource resource) h = tt
of_item linked limit (items.ReadsResource resource) h = tt
of_item linked limit (items.Imports name item) h = tt
of_item linked limit (items.Exports name item stated) h = tt

pub item_sound : (linked : Linked) (part : Part) (at : ℕ) (item : PlanItem) → IsSoundPart linked part → slice_get (part_items linked part) at ≡ Some item → IsSoundItem linked (part_limit linked part) item
item_sound linked part at item h e = of_item linked (part_limit linked part) item (one linked.modules (named_below linked (part_limit linked part)) (part_items linked part) at item h e)

-- a component that begins to be made
pub begun_sound : (linked : Linked) (limit : ℕ) (item : PlanItem) (inner : Level) → IsSoundItem linked limit item → Begun linked limit item inner → IsSoundPart linked inner.part
begun_sound linked limit (items.OfComponent number first args) inner s h = subst (IsSoundPart linked) (sym h.1) (s h.0)
begun_sound linked limit (items.OfModule number args) inner s h = absurd h
begun_sound linked limit (items.OfCoreItems exports) inner s h = absurd h
begun_sound linked limit (items.CoreItemOf sort instance name) inner s h = absurd h
begun_sound linked limit (items.OfItems exports) inner s h = absurd h
begun_sound linked limit (items.ItemOf sort instance name) inner s h = absurd h
begun_sound linked limit (items.NewResource resource destructor) inner s h = absurd h
begun_sound linked limit (items.Lifts func options ty) inner s h = absurd h
begun_sound linked limit (items.Lowers func options ty) inner s h = absurd h
begun_sound linked limit (items.MakesResource resource) inner s h = absurd h
begun_sound linked limit (items.DropsResource resource) inner s h = absurd h
begun_sound linked limit (items.ReadsResource resource) inner s h = absurd h
begun_sound linked limit (items.Imports name item) inner s h = absurd h
begun_sound linked limit (items.Exports name item stated) inner s h = absurd h

-- a module that is found
found : (m : Option (HeldValue Module)) (k : Module) → Some k ≡ option_map (λ (h : HeldValue Module). h.value) m → ((h : HeldValue Module) → m ≡ Some h → IsValidModule h.value × HasCounts h.value) → IsValidModule k × HasCounts k
found None k e s = absurd (cc)
found (Some m) k e s = let same : m.value ≡ k = cc in subst (λ z. IsValidModule z × HasCounts z) same (s m refl)

pub module_found : (linked : Linked) (limit : ℕ) (item : PlanItem) (number : ℕ) (args : _) (k : Module) → IsSoundItem linked limit item → item ≡ items.OfModule number args → Some k ≡ option_map (λ (h : HeldValue Module). h.value) (slice_get linked.modules number)
    → IsValidModule k × HasCounts k
module_found linked limit item number args k s is e = found (slice_get linked.modules number) k e (subst (IsSoundItem linked limit) is s)

-- ---- a plan that is sound

mutual
  item_holds : (item : Planned) (m : Making) → FitsItem item m → HasSoundModule item
  item_holds (OfModule module' args) m h = (h.valid, h.counts)
  item_holds (OfCoreItems exports) m h = tt
  item_holds (CoreItemOf sort instance name) m h = tt
  item_holds (OfComponent plan own args) m h = plan_holds plan (begun (and_stage m.whole Begins) (givens_of m args)) h.1
  item_holds (OfItems exports) m h = tt
  item_holds (ItemOf sort instance name) m h = tt
  item_holds (NewResource resource destructor) m h = tt
  item_holds (Lifts func os ty) m h = tt
  item_holds (Lowers func os ty) m h = tt
  item_holds (MakesResource resource) m h = tt
  item_holds (DropsResource resource) m h = tt
  item_holds (ReadsResource resource) m h = tt
  item_holds (Imports name item) m h = tt
  item_holds (Exports name item stated) m h = tt

  plan_holds : (p : Plan) (m : Making) → IsSoundPlan p m → HasSoundModules p
  plan_holds End m h = tt
  plan_holds (Then item rest) m h = (item_holds item m h.0, plan_holds rest _ h.1)

-- ---- the whole

pub whole_sound : (linked : Linked) → CanBeMade linked → IsSoundPart linked Whole
whole_sound linked h =
    subst (λ cs. HasSoundModules (plan_items linked.modules (and_components linked.modules [] cs) linked.items)) (sym (take-length linked.components)) (plan_holds (plan_in linked) (at_first linked.imports) h.sound)

-- ---- levels

pub sound_push : (linked : Linked) (levels : List Level) (l : Level) → AreSound linked levels → IsSoundPart linked l.part → AreSound linked (levels ++ l ∷ [])
sound_push linked [] l h s = (s, tt)
sound_push linked (k ∷ levels) l h s = (h.0, sound_push linked levels l h.1 s)

pub sound_pop : (linked : Linked) (levels : List Level) (l : Level) → AreSound linked (levels ++ l ∷ []) → AreSound linked levels × IsSoundPart linked l.part
sound_pop linked [] l h = (tt, h.0)
sound_pop linked (k ∷ levels) l h = let r = sound_pop linked levels l h.1 in ((h.0, r.0), r.1)

-- ---- what linking answers

pub linked_can_be_made : LinkedCanBeMade
linked_can_be_made c bytes linked spelled valid plan imports =
    let define = spelled_define c bytes spelled in
    record {
      sound = linked_sound c linked valid define (spelled_count c bytes spelled) plan imports;
      knows = subst (λ p. PlanNamesKnown p (at_first linked.imports)) (sym plan) (subst (λ is. PlanNamesKnown (plan_of c) (at_first is)) (sym imports) (names_known c valid define));
    }
