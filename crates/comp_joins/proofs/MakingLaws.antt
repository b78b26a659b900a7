-- What the stages of a plan add to stores is what its making counts.
use Rattle.std.proofs.Common.{◌≡◌, ℕ, ◌+◌, ◌≤◌, ◌<◌, ◌==◌, List, [], ◌∷◌, ◌++◌, length, Option, Some, None, Bool, true, false, Result, Ok, Err, refl, sym, ◌∙◌, ap, subst, arith, append_assoc}
use Rattle.std.specs.Prelude.{slice_get}
use Rattle.std.specs.Option.{option_map, option_and_then}
use Rattle.std.proofs.lemmas.Bool.{eqb-true, eqb-false}
use Rattle.std.proofs.lemmas.List.{append-nil, length-append, length-map, length_push}
use Rattle.wasm_ast.specs.declared.module.Module.{Module}
use Rattle.wasm_ast.specs.declared.module.CoreFunc.{CoreFunc}
use Rattle.wasm_ast.specs.declared.component.CanonOption.{CanonOption}
use Rattle.core_store.specs.State.{State as Store, empty}
use Rattle.core_store.specs.declared.value.StoreFunc.{StoreFunc}
use Rattle.core_store.specs.declared.value.StoreFunc.TheVariants as functions
use Rattle.core_store.specs.Scene.{scene_of}
use Rattle.core_instance.specs.declared.external.Extern.{Extern}
use Rattle.core_instance.specs.declared.external.Extern.TheVariants.{Func, Table, Memory, Global}
use Rattle.core_instance.specs.Instantiation.{functions_from, allocated, instantiated, instance_of}
use Rattle.core_instance.proofs.FunctionLemmas.{length-functions_from}
use Rattle.core_instance.proofs.SceneLemmas.{Has, instantiated_scene}
use Rattle.host_port.specs.Calls.{PlainObservation}
use Rattle.wit_types.specs.Plain.{Name}
use Rattle.comp_types.specs.Items.{Item}
use Rattle.comp_types.specs.Substitution.{partner_in}
use Rattle.comp_types.specs.Added.{takes_and_gives, takes_one}
use Rattle.comp_worlds.specs.Acts.{Out, Next, Over, Spent, seen_before, then_do, Act, ◌>>◌, gives, takes_step}
use Rattle.comp_worlds.specs.Groups.{Nesting, Target, Func as Canon, LoweredFunc, ResourceNew, ResourceDrop, ResourceRep, Stage, Provides, Makes, Begins, Group, Config, World, Ports}
use Rattle.comp_worlds.specs.Locals.{Local, done, with_store, provides, makes_module}
use Rattle.comp_worlds.specs.Calls.{pick, with_config, on_end, on, Run, starts, does, does_all}
use Rattle.comp_link.specs.Plans.{Plan, Planned, End, Then, OfModule, OfCoreItems, CoreItemOf, OfComponent, OfItems, ItemOf, NewResource, Lifts, Lowers, MakesResource, DropsResource, ReadsResource, Imports, Exports}
use Rattle.comp_link.specs.Linking.{Given, GivenFunc, GivenInstance, GivenResource, GivenType, find, Making, begun, and_stage, core_find, and_core_item, externs_for, with_module, given_at, givens_of, item_in, and_item, and_export, options_in, with_canon, with_lowered, link_item, link}
use Rattle.comp_joins.specs.Made.{Items, items_of, IsAsPlanned, SameItems}
use Rattle.comp_joins.proofs.Evals.{AsMany, scenes_same}
use Rattle.comp_joins.proofs.Acts.{Kept, Keeps, then_keeps, gives_keeps, takes_keeps}
use Rattle.comp_joins.proofs.Calls.{RunKeeps}

same_some : {A : Type 0} → (x y : A) → Some x ≡ Some y → x ≡ y
same_some x y e = let q : x ≡ y = cc in q

-- ---- one more item, and the items of a module

abbrev and_function : Store → StoreFunc → Store
and_function s f = record s { functions = s.functions ++ f ∷ [] }

one_more : (s t : Store) (f g : StoreFunc) → AsMany s t → AsMany (and_function s f) (and_function t g)
one_more s t f g h =
    ap (λ n. record (items_of s) { functions = n }) (length_push s.functions f)
    ∙ ap (λ (i : Items). record i { functions = i.functions + 1 }) h
    ∙ ap (λ n. record (items_of t) { functions = n }) (sym (length_push t.functions g))

-- with that many more of each kind
abbrev and_items : Module → Items → Items
and_items m i = record {
  functions = i.functions + length m.code;
  tables = i.tables + length m.tables;
  memories = i.memories + length m.memories;
  globals = i.globals + length m.globals;
  segments = i.segments + length m.segments;
  elements = i.elements + length m.elements;
  instances = i.instances + 1;
}

items_are : (i j : Items) → i.functions ≡ j.functions → i.tables ≡ j.tables → i.memories ≡ j.memories → i.globals ≡ j.globals → i.segments ≡ j.segments → i.elements ≡ j.elements → i.instances ≡ j.instances → i ≡ j
items_are i j a b c d e f g =
    ap (λ n. record i { functions = n }) a
    ∙ ap (λ n. record j { tables = n; memories = i.memories; globals = i.globals; segments = i.segments; elements = i.elements; instances = i.instances }) b
    ∙ ap (λ n. record j { memories = n; globals = i.globals; segments = i.segments; elements = i.elements; instances = i.instances }) c
    ∙ ap (λ n. record j { globals = n; segments = i.segments; elements = i.elements; instances = i.instances }) d
    ∙ ap (λ n. record j { segments = n; elements = i.elements; instances = i.instances }) e
    ∙ ap (λ n. record j { elements = n; instances = i.instances }) f
    ∙ ap (λ n. record j { instances = n }) g

allocated_items : (s : Store) (m : Module) (imports : List Extern) → items_of (allocated s m imports) ≡ and_items m (items_of s)
allocated_items s m imports =
    items_are (items_of (allocated s m imports)) (and_items m (items_of s))
    (length-append s.functions (functions_from m (length s.instances) 0 m.code) ∙ ap (λ n. length s.functions + n) (length-functions_from m (length s.instances) 0 m.code))
    (simp (length-append, length-map)) (simp (length-append, length-map)) (simp (length-append, length-map)) (simp (length-append, length-map)) (simp (length-append, length-map))
    (simp length_push)

-- ---- what was done, stage by stage

module _ {S : Type 0} where
  -- an act was done
  abbrev Did : {A : Type 0} → Act (World S) A → World S → World S → A → Type 0
  Did x w v a = (n : ℕ) × (o : List PlainObservation) × (left : ℕ) × (x w n ≡ Next o left v a)

  kept_did : {A : Type 0} → (x : Act (World S) A) → Keeps x → (w v : World S) (a : A) → Did x w v a → SameItems w v
  kept_did x h w v a did = subst (Kept w) did.3 (h w did.0)

  abbrev Both : {A B : Type 0} → Act (World S) A → (A → Act (World S) B) → World S → World S → B → Type 0
  Both {A} x go w v b = (u : World S) × (a : A) × Did x w u a × Did (go a) u v b

  abbrev world_of : {A : Type 0} → Out (World S) A → World S → World S
  world_of (Next o l w a) v = w
  world_of (Over o e) v = v
  world_of (Spent o) v = v

  abbrev answer_of : {A : Type 0} → Out (World S) A → A → A
  answer_of (Next o l w a) b = a
  answer_of (Over o e) b = b
  answer_of (Spent o) b = b

  both_did : {A B : Type 0} → (x : Act (World S) A) (go : A → Act (World S) B) (w v : World S) (b : B) → Did (x >> go) w v b → Both x go w v b
  unfolding ◌>>◌
  both_did {A} {B} x go w v b did = at (x w did.0) refl did.3
    where
      second : (o : List PlainObservation) (l : ℕ) (u : World S) (a : A) → x w did.0 ≡ Next o l u a → (y : Out (World S) B) → go a u l ≡ y → seen_before o y ≡ Next did.1 did.2 v b → Both x go w v b
      second o l u a e (Next o' l' u' b') e' is =
          let same : u' ≡ v = ap (λ z. world_of z v) is in
          let answer : b' ≡ b = ap (λ z. answer_of z b) is in
          (u, a, (did.0, o, l, e), (l, o', l', e' ∙ ap (λ z. Next o' l' z b') same ∙ ap (λ z. Next o' l' v z) answer))
      second o l u a e (Over o' x') e' is = absurd (let q : Over (o ++ o') x' ≡ Next did.1 did.2 v b = is in cc)
      second o l u a e (Spent o') e' is = absurd (let q : Spent (o ++ o') ≡ Next did.1 did.2 v b = is in cc)

      at : (y : Out (World S) A) → x w did.0 ≡ y → then_do y go ≡ Next did.1 did.2 v b → Both x go w v b
      at (Next o l u a) e is = second o l u a e (go a u l) refl is
      at (Over o x') e is = absurd (let q : Over o x' ≡ Next did.1 did.2 v b = is in cc)
      at (Spent o) e is = absurd (let q : Spent o ≡ Next did.1 did.2 v b = is in cc)

  -- an operation on an instance, which went
  at_here : (w : World S) (k : ℕ) (c : Config ℕ) → (with_config w k c).configs k ≡ c
  at_here w k c = go (k == k) refl
    where
      go : (b : Bool) → (k == k) ≡ b → pick b c (w.configs k) ≡ c
      go true e = refl
      go false e = absurd (eqb-false k k e refl)

  at_other : (w : World S) (k : ℕ) (c : Config ℕ) (i : ℕ) → (i ≡ k → ⊥) → (with_config w k c).configs i ≡ w.configs i
  at_other w k c i differ = go (i == k) refl
    where
      go : (b : Bool) → (i == k) ≡ b → pick b c (w.configs i) ≡ w.configs i
      go true e = absurd (differ (eqb-true i k e))
      go false e = refl

  abbrev Went : {A : Type 0} → World S → World S → ℕ → Option (Local ℕ A) → Type 0
  Went {A} w v k o = (c : Config ℕ) × (v ≡ with_config w k c) × (option_map (λ (l : Local ℕ A). l.config) o ≡ Some c)

  on_did : {A : Type 0} → (k : ℕ) (op : Config ℕ → Option (Local ℕ A)) (w v : World S) (a : A) → Did (on k op) w v a → Went w v k (op (w.configs k))
  unfolding on
  on_did {A} k op w v a did = at (op (w.configs k)) did.3
    where
      at : (o : Option (Local ℕ A)) → on_end w k did.0 o ≡ Next did.1 did.2 v a → Went w v k o
      at None is = absurd (let q : on_end {A = A} w k did.0 None ≡ Next did.1 did.2 v a = is in cc)
      at (Some l) is = (l.config, ap (λ z. world_of z w) (sym is), refl)

-- ---- the stages of a making

module _ {S : Type 0} (G : Group) (p : Ports S) (run : Run S) (runs : RunKeeps run) (d : Nesting) where
  abbrev Stepped : Stage → World S → World S → Type 0
  Stepped stage w v = Did (does G p run d stage) w v tt

  -- one after the other
  abbrev Went_through : List Stage → World S → World S → Type 0
  Went_through [] w v = w ≡ v
  Went_through (stage ∷ stages) w v = (u : World S) × Stepped stage w u × Went_through stages u v

  nothing_did : (w v : World S) → Did {A = Unit {0}} (gives tt) w v tt → w ≡ v
  unfolding gives
  nothing_did w v did = ap (λ z. world_of z w) did.3

  pub all_did : (stages : List Stage) (w v : World S) → Did (does_all G p run d stages) w v tt → Went_through stages w v
  all_did [] w v did = nothing_did w v did
  all_did (stage ∷ stages) w v did =
      let b = both_did (does G p run d stage) (λ _. does_all G p run d stages) w v tt did in
      (b.0, b.2, all_did stages b.0 v b.3)

  through_both : (xs ys : List Stage) (w v : World S) → Went_through (xs ++ ys) w v → (u : World S) × Went_through xs w u × Went_through ys u v
  through_both [] ys w v h = (w, refl, h)
  through_both (x ∷ xs) ys w v h = let later = through_both xs ys h.0 v h.2 in (later.0, (h.0, h.1, later.1), later.2)

  -- ---- what a plan adds

  -- instances that are not made meanwhile stay as they are
  abbrev Others : Making → World S → World S → Type 0
  Others m w v = (k : ℕ) → k < m.whole.next_instance → (k ≡ m.instance → ⊥) → items_of (w.configs k).store ≡ items_of (v.configs k).store

  pub record Adds (m m' : Making) : Type 0 where
    pub stages : List Stage
    pub are : m'.whole.stages ≡ m.whole.stages ++ stages
    pub instance : m'.instance ≡ m.instance
    pub grows : m.whole.next_instance ≤ m'.whole.next_instance
    pub goes : (w v : World S) → IsAsPlanned m w → Went_through stages w v → IsAsPlanned m' v × Others m w v

  others_same : (m : Making) (w v : World S) → SameItems w v → Others m w v
  others_same m w v same k less differ = same k

  -- nothing that counts is changed
  record Unchanged (m m' : Making) : Type 0 where
    stages : m'.whole.stages ≡ m.whole.stages
    next : m'.whole.next_instance ≡ m.whole.next_instance
    instance : m'.instance ≡ m.instance
    shadow : m'.shadow ≡ m.shadow

  unchanged_adds : (m m' : Making) → Unchanged m m' → Adds m m'
  unchanged_adds m m' h = record {
    stages = [];
    are = h.stages ∙ sym (append-nil m.whole.stages);
    instance = h.instance;
    grows = subst (λ z. m.whole.next_instance ≤ z) (sym h.next) (omega arith);
    goes = λ w v is same. subst (λ z. IsAsPlanned m' z × Others m w z) same (
      record {
        begun = subst (λ z. z < m'.whole.next_instance) (sym h.instance) (subst (λ z. m.instance < z) (sym h.next) is.begun);
        store = subst (λ z. items_of (w.configs z).store ≡ items_of m'.shadow) (sym h.instance) (subst (λ z. items_of (w.configs m.instance).store ≡ items_of z) (sym h.shadow) is.store);
        later = λ k le. is.later k (subst (λ z. z ≤ k) h.next le);
      },
      λ k less differ. refl,
    );
  }

  core_item_unchanged : (m : Making) (o : Option Extern) → Unchanged m (and_core_item m o)
  core_item_unchanged m None = record { stages = refl; next = refl; instance = refl; shadow = refl }
  core_item_unchanged m (Some (Func at)) = record { stages = refl; next = refl; instance = refl; shadow = refl }
  core_item_unchanged m (Some (Table at)) = record { stages = refl; next = refl; instance = refl; shadow = refl }
  core_item_unchanged m (Some (Memory at)) = record { stages = refl; next = refl; instance = refl; shadow = refl }
  core_item_unchanged m (Some (Global at)) = record { stages = refl; next = refl; instance = refl; shadow = refl }

  item_unchanged : (m : Making) (o : Option Given) → Unchanged m (and_item m o)
  item_unchanged m None = record { stages = refl; next = refl; instance = refl; shadow = refl }
  item_unchanged m (Some (GivenFunc target)) = record { stages = refl; next = refl; instance = refl; shadow = refl }
  item_unchanged m (Some (GivenInstance items)) = record { stages = refl; next = refl; instance = refl; shadow = refl }
  item_unchanged m (Some (GivenResource r)) = record { stages = refl; next = refl; instance = refl; shadow = refl }
  item_unchanged m (Some GivenType) = record { stages = refl; next = refl; instance = refl; shadow = refl }

  export_unchanged : (m : Making) (name : Name) (o : Option Given) (stated : Option Item) → Unchanged m (and_export m name o stated)
  export_unchanged m name None stated = record { stages = refl; next = refl; instance = refl; shadow = refl }
  export_unchanged m name (Some item) stated = let u = item_unchanged m (Some item) in record { stages = u.stages; next = u.next; instance = u.instance; shadow = u.shadow }

  as_planned_still : (m : Making) (w v : World S) → SameItems w v → IsAsPlanned m w → IsAsPlanned m v
  as_planned_still m w v same h = record { begun = h.begun; store = sym (same m.instance) ∙ h.store; later = λ k le. sym (same k) ∙ h.later k le }

  -- the store of the instance changes alone
  only_there : (m m' : Making) (w v : World S) (c : Config ℕ) → m'.whole.next_instance ≡ m.whole.next_instance → m'.instance ≡ m.instance → v ≡ with_config w m.instance c → items_of c.store ≡ items_of m'.shadow → IsAsPlanned m w → IsAsPlanned m' v × Others m w v
  only_there m m' w v c next instance is same h =
      subst (λ z. IsAsPlanned m' z × Others m w z) (sym is) (
        record {
          begun = subst (λ z. z < m'.whole.next_instance) (sym instance) (subst (λ z. m.instance < z) (sym next) h.begun);
          store = subst (λ z. items_of ((with_config w m.instance c).configs z).store ≡ items_of m'.shadow) (sym instance) (ap (λ (z : Config ℕ). items_of z.store) (at_here w m.instance c) ∙ same);
          later = λ k le.
              ap (λ (z : Config ℕ). items_of z.store) (at_other w m.instance c k (not_same k (subst (λ z. z ≤ k) next le))) ∙ h.later k (subst (λ z. z ≤ k) next le);
        },
        λ k less differ. ap (λ (z : Config ℕ). items_of z.store) (sym (at_other w m.instance c k differ)),
      )
    where
      not_same : (k : ℕ) → m.whole.next_instance ≤ k → k ≡ m.instance → ⊥
      not_same k le e = let less : m.instance < m.whole.next_instance = h.begun in omega (arith, le, e, less)

  canon_adds : (m : Making) (ty : CoreFunc) (canon : Canon) → Adds m (with_canon m ty canon)
  canon_adds m ty canon = record {
    stages = Provides m.instance ty m.canons ∷ [];
    are = refl;
    instance = refl;
    grows = omega arith;
    goes = λ w v is h.
        let went = on_did m.instance (provides ty m.canons) w h.0 tt h.1 in
        only_there m (with_canon m ty canon) w v went.0 refl refl (sym h.2 ∙ went.1) (provided w went.0 went.2 is.store) is;
  }
    where
      provided : (w : World S) (c : Config ℕ) → option_map (λ (l : Local ℕ (Unit {0})). l.config) (provides ty m.canons (w.configs m.instance)) ≡ Some c → items_of (w.configs m.instance).store ≡ items_of m.shadow → items_of c.store ≡ items_of (with_canon m ty canon).shadow
      provided w c is same =
          let now : Config ℕ = with_store (w.configs m.instance) (and_function (w.configs m.instance).store (functions.Outside ty m.canons)) in
          let e : now ≡ c = same_some now c is in
          ap (λ (z : Config ℕ). items_of z.store) (sym e) ∙ one_more (w.configs m.instance).store m.shadow (functions.Outside ty m.canons) (functions.Outside ty m.canons) same

  lowered_adds : (m : Making) (ty : CoreFunc) (os : List CanonOption) (o : Option Target) → Adds m (with_lowered m ty os o)
  lowered_adds m ty os None = unchanged_adds m m (record { stages = refl; next = refl; instance = refl; shadow = refl })
  lowered_adds m ty os (Some target) = canon_adds m ty (LoweredFunc target (options_in m os))

  -- ---- a module

  starts_keep : (k : ℕ) (o : Option ℕ) → Keeps (starts G p run d k o)
  starts_keep k None = gives_keeps tt
  starts_keep k (Some f) = then_keeps (run d k f []) _ (runs d k f []) (λ a. gives_keeps tt)

  made_items : (s : Store) (module' : Module) (externs : List Extern) (t : Store) → instantiated s module' externs ≡ Ok t → items_of t ≡ and_items module' (items_of s)
  made_items s module' externs t e =
      scenes_same t (allocated s module' externs) (subst (Has (scene_of (allocated s module' externs))) e (instantiated_scene s module' externs)) ∙ allocated_items s module' externs

  made_at : (w : World S) (k : ℕ) (module' : Module) (externs : List Extern) (c : Config ℕ) → option_map (λ (l : Local ℕ (Unit {0})). l.config) (makes_module (λ s. instantiated s module' externs) (w.configs k)) ≡ Some c → items_of c.store ≡ and_items module' (items_of (w.configs k).store)
  made_at w k module' externs c is = at (instantiated (w.configs k).store module' externs) refl is
    where
      at : (r : Result Store Store) → instantiated (w.configs k).store module' externs ≡ r
          → option_map (λ (l : Local ℕ (Unit {0})). l.config) (elim r as (λ _. Option (Local ℕ (Unit {0}))) [ Ok s ↦ Some (done (with_store (w.configs k) s)) | Err s ↦ None ]) ≡ Some c → items_of c.store ≡ and_items module' (items_of (w.configs k).store)
      at (Ok t) e is' = let q : with_store (w.configs k) t ≡ c = same_some (with_store (w.configs k) t) c is' in ap (λ (z : Config ℕ). items_of z.store) (sym q) ∙ made_items (w.configs k).store module' externs t e
      at (Err t) e is' = absurd (let q : None ≡ Some c = is' in cc)

  module_adds : (m : Making) (module' : Module) (externs : List Extern) → Adds m (with_module m module' externs)
  module_adds m module' externs = record {
    stages = Makes m.instance (λ s. instantiated s module' externs) (instance_of m.shadow module' externs).start ∷ [];
    are = refl;
    instance = refl;
    grows = omega arith;
    goes = goes;
  }
    where
      goes : (w v : World S) → IsAsPlanned m w → Went_through (Makes m.instance (λ s. instantiated s module' externs) (instance_of m.shadow module' externs).start ∷ []) w v → IsAsPlanned (with_module m module' externs) v × Others m w v
      goes w v is h =
          let make : Store → Result Store Store = λ s. instantiated s module' externs in
          let start : Option ℕ = (instance_of m.shadow module' externs).start in
          let one = both_did takes_step (λ _. on m.instance (makes_module make) >> λ _. starts G p run d m.instance start) w h.0 tt h.1 in
          let step : SameItems w one.0 = kept_did takes_step takes_keeps w one.0 one.1 one.2 in
          let two = both_did (on m.instance (makes_module make)) (λ _. starts G p run d m.instance start) one.0 h.0 tt one.3 in
          let went = on_did m.instance (makes_module make) one.0 two.0 two.1 two.2 in
          let started : SameItems two.0 h.0 = kept_did (starts G p run d m.instance start) (starts_keep m.instance start) two.0 h.0 tt two.3 in
          let before : IsAsPlanned m one.0 = as_planned_still m w one.0 step is in
          let made : items_of went.0.store ≡ items_of (with_module m module' externs).shadow =
          made_at one.0 m.instance module' externs went.0 went.2 ∙ ap (and_items module') before.store ∙ sym (allocated_items m.shadow module' externs) in
          let there = only_there m (with_module m module' externs) one.0 two.0 went.0 refl refl went.1 made before in
          subst (λ z. IsAsPlanned (with_module m module' externs) z × Others m w z) h.2
          (as_planned_still (with_module m module' externs) two.0 h.0 started there.0, λ k less differ. step k ∙ there.1 k less differ ∙ started k)

  -- ---- a component in the component, and whole plans

  then_adds : (m m1 m2 : Making) → Adds m m1 → Adds m1 m2 → Adds m m2
  then_adds m m1 m2 a b = record {
    stages = a.stages ++ b.stages;
    are = b.are ∙ ap (λ z. z ++ b.stages) a.are ∙ append_assoc m.whole.stages a.stages b.stages;
    instance = b.instance ∙ a.instance;
    grows = let le : m.whole.next_instance ≤ m1.whole.next_instance = a.grows in (let more : m1.whole.next_instance ≤ m2.whole.next_instance = b.grows in omega (arith, le, more));
    goes = λ w v is h.
        let through = through_both a.stages b.stages w v h in
        let one = a.goes w through.0 is through.1 in
        let two = b.goes through.0 v one.0 through.2 in
        (two.0, λ k less differ. one.1 k less differ ∙ two.1 k (less_still k less) (λ e. differ (e ∙ a.instance)));
  }
    where
      less_still : (k : ℕ) → k < m.whole.next_instance → k < m1.whole.next_instance
      less_still k less = let le : m.whole.next_instance ≤ m1.whole.next_instance = a.grows in omega (arith, less, le)

  -- the outer making stays while the inner one is made
  record Holds (m m' made : Making) : Type 0 where
    whole_stages : m'.whole.stages ≡ made.whole.stages
    whole_next : m'.whole.next_instance ≡ made.whole.next_instance
    instance : m'.instance ≡ m.instance
    shadow : m'.shadow ≡ m.shadow

  inner_adds : (m : Making) (inner made m' : Making) → inner.whole.stages ≡ m.whole.stages ++ Begins ∷ [] → inner.whole.next_instance ≡ m.whole.next_instance + 1 → inner.instance ≡ m.whole.next_instance → inner.shadow ≡ empty → Adds inner made → Holds m m' made → Adds m m'
  inner_adds m inner made m' stages next instance shadow a h = record {
    stages = Begins ∷ a.stages;
    are = h.whole_stages ∙ a.are ∙ ap (λ z. z ++ a.stages) stages ∙ append_assoc m.whole.stages (Begins ∷ []) a.stages;
    instance = h.instance;
    grows = subst (λ z. m.whole.next_instance ≤ z) (sym h.whole_next) more;
    goes = goes;
  }
    where
      more : m.whole.next_instance ≤ made.whole.next_instance
      more = let le : inner.whole.next_instance ≤ made.whole.next_instance = a.grows in omega (arith, le, next)

      goes : (w v : World S) → IsAsPlanned m w → Went_through (Begins ∷ a.stages) w v → IsAsPlanned m' v × Others m w v
      goes w v is went =
          let u : World S = went.0 in
          let step : SameItems w u = kept_did takes_step takes_keeps w u tt went.1 in
          let begins : IsAsPlanned inner u = record {
            begun = subst (λ z. z < inner.whole.next_instance) (sym instance) (omega (arith, next));
            store = subst (λ z. items_of (u.configs z).store ≡ items_of inner.shadow) (sym instance) (sym (step m.whole.next_instance) ∙ is.later m.whole.next_instance (omega arith) ∙ ap items_of (sym shadow));
            later = λ k le. sym (step k) ∙ is.later k (first_less k le);
          } in
          let there = a.goes u v begins went.2 in
          let less : m.instance < inner.whole.next_instance = (let lt : m.instance < m.whole.next_instance = is.begun in omega (arith, lt, next)) in (
            record {
              begun = subst (λ z. z < m'.whole.next_instance) (sym h.instance) (subst (λ z. m.instance < z) (sym h.whole_next) (let lt : m.instance < m.whole.next_instance = is.begun in omega (arith, lt, more)));
              store = subst (λ z. items_of (v.configs z).store ≡ items_of m'.shadow) (sym h.instance) (sym (there.1 m.instance less (λ e. not_own is.begun (e ∙ instance))) ∙ sym (step m.instance) ∙ is.store ∙ ap items_of (sym h.shadow));
              later = λ k le. there.0.later k (subst (λ z. z ≤ k) h.whole_next le);
            },
            λ k lt differ. step k ∙ there.1 k (still_less k lt) (λ e. not_own lt (e ∙ instance)),
          )
        where
          first_less : (k : ℕ) → inner.whole.next_instance ≤ k → m.whole.next_instance ≤ k
          first_less k le = omega (arith, le, next)

          still_less : (k : ℕ) → k < m.whole.next_instance → k < inner.whole.next_instance
          still_less k lt = omega (arith, lt, next)

          not_own : {k : ℕ} → k < m.whole.next_instance → k ≡ m.whole.next_instance → ⊥
          not_own lt e = omega (arith, lt, e)

  mutual
    item_adds : (item : Planned) (m : Making) → Adds m (link_item item m)
    item_adds (OfModule module' args) m = module_adds m module' (externs_for m module' args)
    item_adds (OfCoreItems exports) m = unchanged_adds m (link_item (OfCoreItems exports) m) (record { stages = refl; next = refl; instance = refl; shadow = refl })
    item_adds (CoreItemOf sort instance name) m = unchanged_adds m (link_item (CoreItemOf sort instance name) m) (core_item_unchanged m (option_and_then (core_find name) (slice_get m.core_instances instance)))
    item_adds (OfComponent component own args) m =
        let inner : Making = begun (and_stage m.whole Begins) (givens_of m args) in
        inner_adds m inner (link component inner) (link_item (OfComponent component own args) m) refl refl refl refl (plan_adds component inner) (record { whole_stages = refl; whole_next = refl; instance = refl; shadow = refl })
    item_adds (OfItems exports) m = unchanged_adds m (link_item (OfItems exports) m) (record { stages = refl; next = refl; instance = refl; shadow = refl })
    item_adds (ItemOf sort instance name) m = unchanged_adds m (link_item (ItemOf sort instance name) m) (item_unchanged m (item_in (slice_get m.instances instance) name))
    item_adds (NewResource resource destructor) m = unchanged_adds m (link_item (NewResource resource destructor) m) (record { stages = refl; next = refl; instance = refl; shadow = refl })
    item_adds (Lifts func os ty) m = unchanged_adds m (link_item (Lifts func os ty) m) (record { stages = refl; next = refl; instance = refl; shadow = refl })
    item_adds (Lowers func os ty) m = lowered_adds m ty os (option_and_then (λ o. o) (slice_get m.functions func))
    item_adds (MakesResource resource) m = canon_adds m takes_and_gives (ResourceNew (partner_in m.resources resource))
    item_adds (DropsResource resource) m = canon_adds m takes_one (ResourceDrop (partner_in m.resources resource))
    item_adds (ReadsResource resource) m = canon_adds m takes_and_gives (ResourceRep (partner_in m.resources resource))
    item_adds (Imports name item) m = let u = item_unchanged m (find name m.given) in unchanged_adds m (link_item (Imports name item) m) (record { stages = u.stages; next = u.next; instance = u.instance; shadow = u.shadow })
    item_adds (Exports name item stated) m = unchanged_adds m (link_item (Exports name item stated) m) (export_unchanged m name (given_at m item) stated)

    pub plan_adds : (plan : Plan) (m : Making) → Adds m (link plan m)
    plan_adds End m = unchanged_adds m m (record { stages = refl; next = refl; instance = refl; shadow = refl })
    plan_adds (Then item rest) m = then_adds m (link_item item m) (link rest (link_item item m)) (item_adds item m) (plan_adds rest (link_item item m))
