-- Items of a plan that are no modules and no components: the assembly stands between two items again.
use Rattle.std.proofs.Common.{◌≡◌, ◌∙◌, ap, sym, refl, subst, ℕ, ◌<◌, List, [], ◌∷◌, length, Option, Some, None, arith, slice_get}
use Rattle.std.specs.Option.{option_map, option_and_then}
use Rattle.std.proofs.lemmas.Option.{slice_get_within}
use Rattle.wasm_ast.specs.declared.module.CoreFunc.{CoreFunc}
use Rattle.wasm_ast.specs.declared.component.CanonOption.{CanonOption}
use Rattle.core_store.specs.State.{State}
use Rattle.core_store.specs.declared.value.StoreFunc.TheVariants.{Outside}
use Rattle.core_store.specs.Scene.{Scene, scene_of}
use Rattle.comp_facts.specs.Needs.{needs_memory, lower_needs_realloc}
use Rattle.comp_types.specs.Added.{takes_and_gives, takes_one}
use Rattle.comp_worlds.specs.Groups.{Target, Mine, type_of, Func, LoweredFunc, ResourceNew, ResourceDrop, ResourceRep}
use Rattle.comp_link.specs.Plans.{Planned, Then, OfModule, OfCoreItems, CoreItemOf, OfComponent, OfItems, ItemOf, NewResource, Lifts, Lowers, MakesResource, DropsResource, ReadsResource, Imports, Exports}
use Rattle.comp_link.specs.Linking.{Whole, Making, with_canon, with_lowered, place_at, options_in, lifting_of, link_item, canon_in, owner_in}
use Rattle.comp_types.specs.Substitution.{partner_in}
use Rattle.comp_link.specs.declared.linked.Linked.{Linked}
use Rattle.comp_joins.specs.Fits.{HasCodeIfAny}
use Rattle.comp_joins.specs.Sound.{IsSoundItem}
use Rattle.call_moments.specs.Fits.{scenes_of, core_type_of}
use Rattle.call_moments.specs.Leads.{Moment}
use Rattle.instance_making.specs.declared.named.Named.{Named}
use Rattle.instance_making.specs.declared.given.Given.{Given}
use Rattle.instance_making.specs.declared.making.Making.{Making as CodeMaking}
use Rattle.comp_interp.specs.declared.level.Level.{Level}
use Rattle.comp_interp.specs.Completing.{plan_left}
use Rattle.comp_interp.specs.Gathered.{Made}
use Rattle.comp_interp.specs.Standing.{TargetStands, FuncStands, Stands}
use Rattle.comp_interp.specs.Between.{PlanGoes, Between, BetweenWith}
use Rattle.comp_interp.proofs.Provided.{none_behind, canon_stands, owner_stands}
use Rattle.comp_interp.proofs.Fitting.{Grew, takes, options_fit, lifting_fits}
use Rattle.comp_interp.proofs.Gathering.{Unchanged}
use Rattle.comp_interp.proofs.Stepping.{grew_same, stores_are, stores_stay, step_between}
use Rattle.comp_interp.proofs.Targets.{LiftedHolds, function_called}
use Rattle.comp_interp.proofs.Unchanging.{core_alias_unchanged, alias_unchanged, import_unchanged, export_unchanged}

-- an item that is no module and no component
abbrev pub IsSmall : Planned → Type 0
IsSmall (OfModule module' args) = ⊥
IsSmall (OfComponent plan own args) = ⊥
IsSmall _ = Unit {0}

-- which instance is made stays
with_lowered_here : (m : Making) (ty : CoreFunc) (os : List CanonOption) (o : Option Target) → (with_lowered m ty os o).instance ≡ m.instance
with_lowered_here m ty os None = refl
with_lowered_here m ty os (Some target) = refl

pub item_here : (item : Planned) (m : Making) → (link_item item m).instance ≡ m.instance
item_here (OfModule module' args) m = refl
item_here (OfCoreItems exports) m = refl
item_here (CoreItemOf sort instance name) m = (core_alias_unchanged m sort instance name).instance
item_here (OfComponent plan own args) m = refl
item_here (OfItems exports) m = refl
item_here (ItemOf sort instance name) m = (alias_unchanged m sort instance name).instance
item_here (NewResource resource destructor) m = refl
item_here (Lifts func os ty) m = refl
item_here (Lowers func os ty) m = with_lowered_here m ty os (option_and_then (λ o. o) (slice_get m.functions func))
item_here (MakesResource resource) m = refl
item_here (DropsResource resource) m = refl
item_here (ReadsResource resource) m = refl
item_here (Imports name item) m = (import_unchanged m name item).instance
item_here (Exports name item stated) m = (export_unchanged m name item stated).instance

module _ {S : Type 0} (linked : Linked) (listed : List (Named Given)) (hs : List Level) (l : Level) (m : Moment S) (b : Between linked listed hs l m) (new : Moment S) (listed' : List (Named Given)) (lm : CodeMaking) where
  abbrev ss : List Scene
  ss = scenes_of m.instances

  abbrev ts : List Scene
  ts = scenes_of new.instances

  abbrev StandsNow : Making → Type 0
  StandsNow g = Stands ts (canon_in g.whole.canons) (owner_in g.whole.owners)

  abbrev Reached : Making → Type 0
  Reached g = Made b.before m new listed' lm g

  -- ---- neither a store nor the group changes

  module _ (next : Making) (u : Unchanged b.g next) (made : Reached next) where
    kept_stores : ts ≡ ss
    kept_stores = stores_stay b.before m new listed' lm b.g next b.gathers.own made u.instance u.shadow

    kept_stand : StandsNow next
    kept_stand =
        subst (λ (w : Whole). Stands ts (canon_in w.canons) (owner_in w.owners)) (sym u.whole)
        (subst (λ xs. Stands xs (canon_in b.g.whole.canons) (owner_in b.g.whole.owners)) (sym kept_stores) b.stand)

    kept_grew : Grew (scene_of b.g.shadow) (scene_of next.shadow)
    kept_grew = subst (λ (s : State). Grew (scene_of b.g.shadow) (scene_of s)) (sym u.shadow) (grew_same (scene_of b.g.shadow))

  -- ---- a canonical function

  module _ (ty : CoreFunc) (f : Func) (stands : FuncStands ss b.g.instance f) (params : ty.params ≡ (core_type_of f).params) (results : ty.results ≡ (core_type_of f).results) where
    none_yet : canon_in b.g.whole.canons b.g.instance b.g.canons ≡ None
    none_yet = sym (b.gathers.whole.canons b.g.instance b.g.canons) ∙ none_behind m.group.canons.items b.g.instance b.g.canons b.gathers.own.canons

    canon_stand : Reached (with_canon b.g ty f) → StandsNow (with_canon b.g ty f)
    canon_stand made =
        subst (λ xs. Stands xs (canon_in (with_canon b.g ty f).whole.canons) (owner_in b.g.whole.owners)) (sym (stores_are b.before m new listed' lm b.g (with_canon b.g ty f) b.gathers.own made refl))
        (canon_stands ss b.g (owner_in b.g.whole.owners) b.stand b.gathers.own.store ty f none_yet stands params results)

    canon_grew : Grew (scene_of b.g.shadow) (scene_of (with_canon b.g ty f).shadow)
    canon_grew = record { more = Outside ty b.g.canons ∷ []; functions = refl; memories = omega arith }

  -- one that is lowered

  module _ (func : ℕ) (os : List CanonOption) (ty : CoreFunc) (so : IsSoundItem (Lowers func os ty) b.g) where
    abbrev lowered_func : Func
    lowered_func = LoweredFunc so.0 (options_in b.g os)

    pub lowers_is : link_item (Lowers func os ty) b.g ≡ with_canon b.g ty lowered_func
    lowers_is = ap (λ o. with_lowered b.g ty os (option_and_then (λ x. x) o)) so.1

    lowered_stands : FuncStands ss b.g.instance lowered_func
    lowered_stands = (
      subst (λ o. CalledSome (option_and_then (λ x. x) o)) so.1 (function_called (TargetStands ss) b.g.functions func b.called.5),
      options_fit ss b.g.instance b.g.shadow b.gathers.own.store (options_in b.g os) (type_of so.0) (needs_memory (type_of so.0)) (lower_needs_realloc (type_of so.0)) (λ e. e) so.2.options,
    )
      where
        CalledSome : Option Target → Type 0
        CalledSome None = Unit {0}
        CalledSome (Some target) = TargetStands ss target

    lowered_params : ty.params ≡ (core_type_of lowered_func).params
    lowered_params = ap (λ (t : CoreFunc). t.params) so.2.code

    lowered_results : ty.results ≡ (core_type_of lowered_func).results
    lowered_results = ap (λ (t : CoreFunc). t.results) so.2.code

    lowers_stand : Reached (link_item (Lowers func os ty) b.g) → StandsNow (link_item (Lowers func os ty) b.g)
    lowers_stand made = subst StandsNow (sym lowers_is) (canon_stand ty lowered_func lowered_stands lowered_params lowered_results (subst Reached lowers_is made))

    lowers_grew : Grew (scene_of b.g.shadow) (scene_of (link_item (Lowers func os ty) b.g).shadow)
    lowers_grew = subst (λ (g : Making). Grew (scene_of b.g.shadow) (scene_of g.shadow)) (sym lowers_is) (canon_grew ty lowered_func lowered_stands lowered_params lowered_results)

  -- ---- a resource

  is_here : b.g.instance < length ss
  is_here = slice_get_within ss b.g.instance (scene_of b.g.shadow) b.gathers.own.store

  module _ (resource : ℕ) (destructor : Option ℕ) (code : HasCodeIfAny b.g.shadow (option_map (place_at b.g.core_functions) destructor) takes_one) where
    resource_stand : Reached (link_item (NewResource resource destructor) b.g) → StandsNow (link_item (NewResource resource destructor) b.g)
    resource_stand made =
        subst (λ xs. Stands xs (canon_in b.g.whole.canons) (owner_in (link_item (NewResource resource destructor) b.g).whole.owners)) (sym (stores_stay b.before m new listed' lm b.g (link_item (NewResource resource destructor) b.g) b.gathers.own made refl refl))
        (owner_stands ss b.g (canon_in b.g.whole.canons) resource destructor b.stand (is_here, λ f is. takes ss b.g.instance b.g.shadow b.gathers.own.store f takes_one (subst (λ o. HasCodeIfAny b.g.shadow o takes_one) is code)))

  -- ---- all

  pub small_stand : (item : Planned) → IsSmall item → IsSoundItem item b.g → Reached (link_item item b.g) → StandsNow (link_item item b.g) × Grew (scene_of b.g.shadow) (scene_of (link_item item b.g).shadow)
  small_stand (OfModule module' args) small s made = absurd small
  small_stand (OfComponent plan own args) small s made = absurd small
  small_stand (OfCoreItems exports) small s made = let u : Unchanged b.g (link_item (OfCoreItems exports) b.g) = record { whole = refl; instance = refl; shadow = refl; canons = refl } in (kept_stand _ u made, kept_grew _ u made)
  small_stand (CoreItemOf sort instance name) small s made = let u = core_alias_unchanged b.g sort instance name in (kept_stand _ u made, kept_grew _ u made)
  small_stand (OfItems exports) small s made = let u : Unchanged b.g (link_item (OfItems exports) b.g) = record { whole = refl; instance = refl; shadow = refl; canons = refl } in (kept_stand _ u made, kept_grew _ u made)
  small_stand (ItemOf sort instance name) small s made = let u = alias_unchanged b.g sort instance name in (kept_stand _ u made, kept_grew _ u made)
  small_stand (NewResource resource destructor) small s made = (resource_stand resource destructor s made, grew_same (scene_of b.g.shadow))
  small_stand (Lifts func os ty) small s made = let u : Unchanged b.g (link_item (Lifts func os ty) b.g) = record { whole = refl; instance = refl; shadow = refl; canons = refl } in (kept_stand _ u made, kept_grew _ u made)
  small_stand (Lowers func os ty) small s made = (lowers_stand func os ty s made, lowers_grew func os ty s)
  small_stand (MakesResource resource) small s made = let f = ResourceNew (partner_in b.g.resources resource) in (canon_stand takes_and_gives f tt refl refl made, canon_grew takes_and_gives f tt refl refl)
  small_stand (DropsResource resource) small s made = let f = ResourceDrop (partner_in b.g.resources resource) in (canon_stand takes_one f tt refl refl made, canon_grew takes_one f tt refl refl)
  small_stand (ReadsResource resource) small s made = let f = ResourceRep (partner_in b.g.resources resource) in (canon_stand takes_and_gives f tt refl refl made, canon_grew takes_and_gives f tt refl refl)
  small_stand (Imports name item) small s made = let u = import_unchanged b.g name item in (kept_stand _ u made, kept_grew _ u made)
  small_stand (Exports name item stated) small s made = let u = export_unchanged b.g name item stated in (kept_stand _ u made, kept_grew _ u made)

  -- a function that is lifted finds what it needs
  pub small_lifted : (item : Planned) → IsSmall item → IsSoundItem item b.g → Reached (link_item item b.g) → LiftedHolds (TargetStands ts) item b.g
  small_lifted (Lifts func os ty) small s made =
      subst (λ xs. TargetStands xs (Mine b.g.instance (lifting_of b.g func os ty)))
      (sym (stores_stay b.before m new listed' lm b.g (link_item (Lifts func os ty) b.g) b.gathers.own made refl refl))
      (lifting_fits ss b.g.instance b.g.shadow b.gathers.own.store (lifting_of b.g func os ty) s)
  small_lifted (OfModule module' args) small s made = tt
  small_lifted (OfComponent plan own args) small s made = absurd small
  small_lifted (OfCoreItems exports) small s made = tt
  small_lifted (CoreItemOf sort instance name) small s made = tt
  small_lifted (OfItems exports) small s made = tt
  small_lifted (ItemOf sort instance name) small s made = tt
  small_lifted (NewResource resource destructor) small s made = tt
  small_lifted (Lowers func os ty) small s made = tt
  small_lifted (MakesResource resource) small s made = tt
  small_lifted (DropsResource resource) small s made = tt
  small_lifted (ReadsResource resource) small s made = tt
  small_lifted (Imports name item) small s made = tt
  small_lifted (Exports name item stated) small s made = tt

pub small_between : {S : Type 0} → (linked : Linked) (listed listed' : List (Named Given)) (hs : List Level) (l l' : Level) (m new : Moment S) (b : Between linked listed hs l m) (item : Planned) → l'.part ≡ l.part → l'.first ≡ l.first → plan_left linked l ≡ Then item (plan_left linked l') →
    IsSmall item → Made b.before m new listed' l'.making (link_item item b.g) → BetweenWith linked listed' hs l' new (link_item item b.g).whole
small_between linked listed listed' hs l l' m new b item part first left small made =
    let s : IsSoundItem item b.g = (subst (λ p. PlanGoes p b.g) left b.goes).0.0 in
    let st = small_stand linked listed hs l m b new listed' l'.making item small s made in
    step_between linked listed hs l m b l' part first item left listed' new made (item_here item b.g) st.1 (small_lifted linked listed hs l m b new listed' l'.making item small s made) st.0
