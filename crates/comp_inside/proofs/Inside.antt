-- What a plan makes after other instances.
use Rattle.std.proofs.Common.{◌≡◌, ℕ, ◌+◌, cond, List, [], ◌∷◌, ◌++◌, map, Option, Some, None, Bool, true, false, refl, sym, ◌∙◌, ap, arith, append_assoc}
use Rattle.std.specs.Prelude.{slice_get}
use Rattle.std.specs.List.{flat_map}
use Rattle.std.specs.Option.{option_map, option_and_then}
use Rattle.std.proofs.lemmas.List.{map-append}
use Rattle.std.proofs.lemmas.Option.{slice_get-map}
use Rattle.wasm_ast.specs.declared.module.Module.{Module}
use Rattle.wasm_ast.specs.declared.module.Import.{Import as ModuleImport}
use Rattle.wasm_ast.specs.declared.module.CoreFunc.{CoreFunc}
use Rattle.wasm_ast.specs.declared.component.CoreArg.{CoreArg}
use Rattle.wasm_ast.specs.declared.component.CoreExport.{CoreExport}
use Rattle.wasm_ast.specs.declared.component.CoreSort.{CoreSort}
use Rattle.wasm_ast.specs.declared.component.CoreSort.TheVariants as core_sorts
use Rattle.wasm_ast.specs.declared.component.CanonOption.{CanonOption}
use Rattle.wasm_ast.specs.declared.component.CanonOption.TheVariants.{Utf8, Memory as MemoryOption, Realloc, PostReturn}
use Rattle.core_instance.specs.declared.external.Extern.{Extern}
use Rattle.core_instance.specs.declared.external.Extern.TheVariants.{Func, Table, Memory, Global}
use Rattle.core_instance.specs.declared.external.NamedExtern.{NamedExtern}
use Rattle.core_instance.specs.Instantiation.{instantiated, instance_of}
use Rattle.wit_types.specs.Plain.{Name, PlainFunc}
use Rattle.comp_types.specs.Items.{Item, Entries, FuncItem, InstanceItem, KindItem, End as NoEntries, More as Entry, same_name}
use Rattle.comp_types.specs.Substitution.{partner_in}
use Rattle.comp_types.specs.Added.{takes_and_gives, takes_one}
use Rattle.comp_worlds.specs.Groups.{Target, Mine, Func as Canon, LoweredFunc, ResourceNew, ResourceDrop, ResourceRep, Stage, Provides, Makes, Begins}
use Rattle.comp_worlds.specs.Parts.{func_to, stage_to, stages_to}
use Rattle.comp_link.specs.Plans.{Named, AFunc, AnInstanceAt, AResource, AValueType, NamedArg, Plan, Planned, End, Then, OfModule, OfCoreItems, CoreItemOf, OfComponent, OfItems, ItemOf, NewResource, Lifts, Lowers, MakesResource, DropsResource, ReadsResource, Imports, Exports}
use Rattle.comp_link.specs.Linking.{Given, Givens, GivenFunc, GivenInstance, GivenResource, GivenType, Nothing, Giving, find, and_given, bound, all_bound, Placed, Whole, Making, begun, and_stage, place_at, core_item, and_core_item, and_core_instance, core_find, arg_instance, extern_for, externs_for, with_module, named_core, given_at, and_some_given, givens_of, and_item, item_in, and_bound, bound_if, and_export, memory_in, realloc_in, post_in, options_in, with_canon, with_lowered, lifting_of, with_resource, with_component, link_item, link}
use Rattle.comp_inside.specs.Inside.{Standing, place, target_in, given_in, givens_in, placed_in, owned_in, whole_in, making_in, LinkedInside}

stages_append : (f : ℕ → ℕ) (xs ys : List Stage) → stages_to f (xs ++ ys) ≡ stages_to f xs ++ stages_to f ys
stages_append f [] ys = refl
stages_append f (x ∷ xs) ys = ap (λ z. stage_to f x ∷ z) (stages_append f xs ys)

flat_map_alike : {A B : Type 0} → (f g : A → List B) (xs : List A) → ((a : A) → f a ≡ g a) → flat_map f xs ≡ flat_map g xs
flat_map_alike f g [] h = refl
flat_map_alike f g (x ∷ xs) h = ap (λ z. z ++ flat_map f xs) (h x) ∙ ap (λ z. g x ++ z) (flat_map_alike f g xs h)

pub cond_some : {A B : Type 0} → (f : A → B) (b : Bool) (a : A) (x : Option B) (y : Option A) → x ≡ option_map f y → cond b (Some (f a)) x ≡ option_map f (cond b (Some a) y)
cond_some f true a x y e = refl
cond_some f false a x y e = e

module _ (at : Standing) where
  -- ---- what is given

  pub find_in : (name : Name) (gs : Givens) → find name (givens_in at gs) ≡ option_map (given_in at) (find name gs)
  find_in name Nothing = refl
  find_in name (Giving n item rest) = cond_some (given_in at) (same_name n name) item (find name (givens_in at rest)) (find name rest) (find_in name rest)

  and_given_in : (gs : Givens) (name : Name) (item : Given) → and_given (givens_in at gs) name (given_in at item) ≡ givens_in at (and_given gs name item)
  and_given_in Nothing name item = refl
  and_given_in (Giving n i rest) name item = ap (Giving n (given_in at i)) (and_given_in rest name item)

  func_bound : (target : Target) (item : Item) → bound (Some (GivenFunc (target_in at target))) item ≡ bound (Some (GivenFunc target)) item
  func_bound target (FuncItem ty) = refl
  func_bound target (InstanceItem entries) = refl
  func_bound target (KindItem kind) = refl

  mutual
    bound_in : (o : Option Given) (item : Item) → bound (option_map (given_in at) o) item ≡ bound o item
    bound_in None item = refl
    bound_in (Some (GivenFunc target)) item = func_bound target item
    bound_in (Some (GivenResource g)) item = refl
    bound_in (Some GivenType) item = refl
    bound_in (Some (GivenInstance items)) (InstanceItem entries) = all_bound_in items entries
    bound_in (Some (GivenInstance items)) (FuncItem ty) = refl
    bound_in (Some (GivenInstance items)) (KindItem kind) = refl

    all_bound_in : (gs : Givens) (entries : Entries) → all_bound (givens_in at gs) entries ≡ all_bound gs entries
    all_bound_in gs NoEntries = refl
    all_bound_in gs (Entry name item rest) =
        ap (λ z. bound z item ++ all_bound (givens_in at gs) rest) (find_in name gs)
        ∙ ap (λ z. z ++ all_bound (givens_in at gs) rest) (bound_in (find name gs) item)
        ∙ ap (λ z. bound (find name gs) item ++ z) (all_bound_in gs rest)

  -- ---- the group so far

  stage_in : (w : Whole) (stage : Stage) → and_stage (whole_in at w) (stage_to (place at) stage) ≡ whole_in at (and_stage w stage)
  stage_in w stage =
      ap (λ z. record (whole_in at w) { stages = z })
      (append_assoc at.before.stages (stages_to (place at) w.stages) (stage_to (place at) stage ∷ [])
      ∙ ap (λ z. at.before.stages ++ z) (sym (stages_append (place at) w.stages (stage ∷ []))))

  appended_in : {A B : Type 0} → (before : List B) (f : A → B) (xs : List A) (x : A) → (before ++ map f xs) ++ f x ∷ [] ≡ before ++ map f (xs ++ x ∷ [])
  appended_in before f xs x = append_assoc before (map f xs) (f x ∷ []) ∙ ap (λ z. before ++ z) (sym (map-append f xs (x ∷ [])))

  begun_in : (w : Whole) (given : Givens) → begun (whole_in at w) (givens_in at given) ≡ making_in at (begun w given)
  begun_in w given = ap (λ z. record (making_in at (begun w given)) { whole = record (whole_in at w) { next_instance = z } }) (let q : at.instances + w.next_instance + 1 ≡ at.instances + (w.next_instance + 1) = omega arith in q)

  -- ---- core items

  core_item_in : (m : Making) (sort : CoreSort) (i : ℕ) → core_item (making_in at m) sort i ≡ core_item m sort i
  core_item_in m core_sorts.Func i = refl
  core_item_in m core_sorts.Table i = refl
  core_item_in m core_sorts.Memory i = refl
  core_item_in m core_sorts.Global i = refl

  and_core_item_in : (m : Making) (o : Option Extern) → and_core_item (making_in at m) o ≡ making_in at (and_core_item m o)
  and_core_item_in m None = refl
  and_core_item_in m (Some (Func i)) = refl
  and_core_item_in m (Some (Table i)) = refl
  and_core_item_in m (Some (Memory i)) = refl
  and_core_item_in m (Some (Global i)) = refl

  arg_in : (m : Making) (name : Name) (args : List CoreArg) → arg_instance (making_in at m) name args ≡ arg_instance m name args
  arg_in m name [] = refl
  arg_in m name (a ∷ args) = ap (λ z. cond (same_name a.name name) (slice_get m.core_instances a.instance) z) (arg_in m name args)

  extern_in : (m : Making) (args : List CoreArg) (i : ModuleImport) → extern_for (making_in at m) args i ≡ extern_for m args i
  extern_in m args i = ap (λ (z : Option (List NamedExtern)). elim (option_and_then (core_find i.name) z) as (λ (o : Option Extern). List Extern) [ None ↦ [] | Some e ↦ e ∷ [] ]) (arg_in m i.module args)

  externs_in : (m : Making) (module' : Module) (args : List CoreArg) → externs_for (making_in at m) module' args ≡ externs_for m module' args
  externs_in m module' args = flat_map_alike (extern_for (making_in at m) args) (extern_for m args) module'.imports (extern_in m args)

  named_core_in : (m : Making) (exports : List CoreExport) → named_core (making_in at m) exports ≡ named_core m exports
  named_core_in m [] = refl
  named_core_in m (e ∷ es) =
      ap (λ z. record { name = e.name; item = z } ∷ named_core (making_in at m) es) (core_item_in m e.sort e.index)
      ∙ ap (λ z. record { name = e.name; item = core_item m e.sort e.index } ∷ z) (named_core_in m es)

  module_in : (m : Making) (module' : Module) (externs : List Extern) → with_module (making_in at m) module' externs ≡ making_in at (with_module m module' externs)
  module_in m module' externs =
      ap (λ w. record (making_in at (with_module m module' externs)) { whole = w })
      (stage_in m.whole (Makes m.instance (λ s. instantiated s module' externs) (instance_of m.shadow module' externs).start))

  -- ---- items of components

  given_at_in : (m : Making) (named : Named) → given_at (making_in at m) named ≡ option_map (given_in at) (given_at m named)
  given_at_in m (AFunc i) = ap (option_and_then (option_map GivenFunc)) (slice_get-map (option_map (target_in at)) m.functions i) ∙ go (slice_get m.functions i)
    where
      go : (o : Option (Option Target)) → option_and_then (option_map GivenFunc) (option_map (option_map (target_in at)) o) ≡ option_map (given_in at) (option_and_then (option_map GivenFunc) o)
      go None = refl
      go (Some None) = refl
      go (Some (Some target)) = refl
  given_at_in m (AnInstanceAt i) = ap (option_map GivenInstance) (slice_get-map (givens_in at) m.instances i) ∙ go (slice_get m.instances i)
    where
      go : (o : Option Givens) → option_map GivenInstance (option_map (givens_in at) o) ≡ option_map (given_in at) (option_map GivenInstance o)
      go None = refl
      go (Some items) = refl
  given_at_in m (AResource r) = refl
  given_at_in m AValueType = refl

  some_given_in : (o : Option Given) (name : Name) (rest : Givens) → and_some_given (option_map (given_in at) o) name (givens_in at rest) ≡ givens_in at (and_some_given o name rest)
  some_given_in None name rest = refl
  some_given_in (Some item) name rest = refl

  givens_of_in : (m : Making) (args : List NamedArg) → givens_of (making_in at m) args ≡ givens_in at (givens_of m args)
  givens_of_in m [] = refl
  givens_of_in m (a ∷ args) =
      ap (λ z. and_some_given z a.name (givens_of (making_in at m) args)) (given_at_in m a.item)
      ∙ ap (λ z. and_some_given (option_map (given_in at) (given_at m a.item)) a.name z) (givens_of_in m args)
      ∙ some_given_in (given_at m a.item) a.name (givens_of m args)

  and_item_in : (m : Making) (o : Option Given) → and_item (making_in at m) (option_map (given_in at) o) ≡ making_in at (and_item m o)
  and_item_in m None = refl
  and_item_in m (Some (GivenFunc target)) = ap (λ z. record (making_in at m) { functions = z }) (sym (map-append (option_map (target_in at)) m.functions (Some target ∷ [])))
  and_item_in m (Some (GivenInstance items)) = ap (λ z. record (making_in at m) { instances = z }) (sym (map-append (givens_in at) m.instances (items ∷ [])))
  and_item_in m (Some (GivenResource r)) = refl
  and_item_in m (Some GivenType) = refl

  item_in_in : (m : Making) (instance : ℕ) (name : Name) → item_in (slice_get (making_in at m).instances instance) name ≡ option_map (given_in at) (item_in (slice_get m.instances instance) name)
  item_in_in m instance name = ap (λ z. item_in z name) (slice_get-map (givens_in at) m.instances instance) ∙ go (slice_get m.instances instance)
    where
      go : (o : Option Givens) → item_in (option_map (givens_in at) o) name ≡ option_map (given_in at) (item_in o name)
      go None = refl
      go (Some items) = find_in name items

  bound_if_in : (o : Option Given) (stated : Option Item) → bound_if (option_map (given_in at) o) stated ≡ bound_if o stated
  bound_if_in o None = refl
  bound_if_in o (Some item) = bound_in o item

  and_export_in : (m : Making) (name : Name) (o : Option Given) (stated : Option Item) → and_export (making_in at m) name (option_map (given_in at) o) stated ≡ making_in at (and_export m name o stated)
  and_export_in m name None stated = refl
  and_export_in m name (Some item) stated =
      ap (λ z. record (and_bound z (bound_if (Some (given_in at item)) stated)) { exports = and_given (givens_in at m.exports) name (given_in at item) }) (and_item_in m (Some item))
      ∙ ap (λ z. record (and_bound (making_in at (and_item m (Some item))) z) { exports = and_given (givens_in at m.exports) name (given_in at item) }) (bound_if_in (Some item) stated)
      ∙ ap (λ z. record (and_bound (making_in at (and_item m (Some item))) (bound_if (Some item) stated)) { exports = z }) (and_given_in m.exports name item)

  -- ---- canonical functions

  memory_same : (m : Making) (os : List CanonOption) → memory_in (making_in at m) os ≡ memory_in m os
  memory_same m [] = refl
  memory_same m (MemoryOption i ∷ os) = refl
  memory_same m (Realloc i ∷ os) = memory_same m os
  memory_same m (PostReturn i ∷ os) = memory_same m os
  memory_same m (Utf8 ∷ os) = memory_same m os

  realloc_same : (m : Making) (os : List CanonOption) → realloc_in (making_in at m) os ≡ realloc_in m os
  realloc_same m [] = refl
  realloc_same m (MemoryOption i ∷ os) = realloc_same m os
  realloc_same m (Realloc i ∷ os) = refl
  realloc_same m (PostReturn i ∷ os) = realloc_same m os
  realloc_same m (Utf8 ∷ os) = realloc_same m os

  post_same : (m : Making) (os : List CanonOption) → post_in (making_in at m) os ≡ post_in m os
  post_same m [] = refl
  post_same m (MemoryOption i ∷ os) = post_same m os
  post_same m (Realloc i ∷ os) = post_same m os
  post_same m (PostReturn i ∷ os) = refl
  post_same m (Utf8 ∷ os) = post_same m os

  options_same : (m : Making) (os : List CanonOption) → options_in (making_in at m) os ≡ options_in m os
  options_same m os = ap (λ z. record { memory = z; realloc = realloc_in (making_in at m) os }) (memory_same m os) ∙ ap (λ z. record { memory = memory_in m os; realloc = z }) (realloc_same m os)

  lifting_same : (m : Making) (func : ℕ) (os : List CanonOption) (ty : PlainFunc) → lifting_of (making_in at m) func os ty ≡ lifting_of m func os ty
  lifting_same m func os ty =
      ap (λ z. record (lifting_of (making_in at m) func os ty) { options = z }) (options_same m os)
      ∙ ap (λ z. record (lifting_of m func os ty) { post = z }) (post_same m os)

  canon_in : (m : Making) (ty : CoreFunc) (canon : Canon) → with_canon (making_in at m) ty (func_to (place at) at.import canon) ≡ making_in at (with_canon m ty canon)
  canon_in m ty canon =
      let new : Placed = record { instance = m.instance; number = m.canons; canon = canon } in
      ap (λ w. record (making_in at (with_canon m ty canon)) { whole = record w { canons = (whole_in at m.whole).canons ++ placed_in at new ∷ [] } }) (stage_in m.whole (Provides m.instance ty m.canons))
      ∙ ap (λ z. record (making_in at (with_canon m ty canon)) { whole = record (whole_in at (and_stage m.whole (Provides m.instance ty m.canons))) { canons = z } }) (appended_in at.before.canons (placed_in at) m.whole.canons new)

  lowered_in : (m : Making) (ty : CoreFunc) (os : List CanonOption) (o : Option Target) → with_lowered (making_in at m) ty os (option_map (target_in at) o) ≡ making_in at (with_lowered m ty os o)
  lowered_in m ty os None = refl
  lowered_in m ty os (Some target) = ap (λ z. with_canon (making_in at m) ty (LoweredFunc (target_in at target) z)) (options_same m os) ∙ canon_in m ty (LoweredFunc target (options_in m os))

  function_in : (m : Making) (func : ℕ) → option_and_then (λ o. o) (slice_get (making_in at m).functions func) ≡ option_map (target_in at) (option_and_then (λ o. o) (slice_get m.functions func))
  function_in m func = ap (option_and_then (λ o. o)) (slice_get-map (option_map (target_in at)) m.functions func) ∙ go (slice_get m.functions func)
    where
      go : (o : Option (Option Target)) → option_and_then (λ o. o) (option_map (option_map (target_in at)) o) ≡ option_map (target_in at) (option_and_then (λ o. o) o)
      go None = refl
      go (Some o) = refl

  resource_in : (m : Making) (r : ℕ) (destructor : Option ℕ) → with_resource (making_in at m) r destructor ≡ making_in at (with_resource m r destructor)
  resource_in m r destructor =
      ap (λ z. record (making_in at (with_resource m r destructor)) { whole = record (whole_in at (with_resource m r destructor).whole) { owners = z } })
      (appended_in at.before.owners (owned_in at) m.whole.owners (record { resource = m.whole.next_resource; owner = record { instance = m.instance; destructor = option_map (place_at m.core_functions) destructor } }))

  component_in : (m : Making) (own : List (ℕ × ℕ)) (made : Making) → with_component (making_in at m) own (making_in at made) ≡ making_in at (with_component m own made)
  component_in m own made = ap (λ z. record (making_in at (with_component m own made)) { instances = z }) (sym (map-append (givens_in at) m.instances (made.exports ∷ [])))

  -- ---- the plan

  mutual
    item_linked : (item : Planned) (m : Making) → link_item item (making_in at m) ≡ making_in at (link_item item m)
    item_linked (OfModule module' args) m = ap (with_module (making_in at m) module') (externs_in m module' args) ∙ module_in m module' (externs_for m module' args)
    item_linked (OfCoreItems exports) m = ap (and_core_instance (making_in at m)) (named_core_in m exports)
    item_linked (CoreItemOf sort instance name) m = and_core_item_in m (option_and_then (core_find name) (slice_get m.core_instances instance))
    item_linked (OfComponent component own args) m =
        ap (λ z. with_component (making_in at m) own (link component (begun z (givens_of (making_in at m) args)))) (stage_in m.whole Begins)
        ∙ ap (λ z. with_component (making_in at m) own (link component (begun (whole_in at (and_stage m.whole Begins)) z))) (givens_of_in m args)
        ∙ ap (λ z. with_component (making_in at m) own (link component z)) (begun_in (and_stage m.whole Begins) (givens_of m args))
        ∙ ap (with_component (making_in at m) own) (plan_linked component (begun (and_stage m.whole Begins) (givens_of m args)))
        ∙ component_in m own (link component (begun (and_stage m.whole Begins) (givens_of m args)))
    item_linked (OfItems exports) m =
        ap (λ z. record (making_in at m) { instances = map (givens_in at) m.instances ++ z ∷ [] }) (givens_of_in m exports)
        ∙ ap (λ z. record (making_in at m) { instances = z }) (sym (map-append (givens_in at) m.instances (givens_of m exports ∷ [])))
    item_linked (ItemOf sort instance name) m = ap (and_item (making_in at m)) (item_in_in m instance name) ∙ and_item_in m (item_in (slice_get m.instances instance) name)
    item_linked (NewResource resource destructor) m = resource_in m resource destructor
    item_linked (Lifts func os ty) m =
        ap (λ z. record (making_in at m) { functions = map (option_map (target_in at)) m.functions ++ Some (target_in at (Mine m.instance z)) ∷ [] }) (lifting_same m func os ty)
        ∙ ap (λ z. record (making_in at m) { functions = z }) (sym (map-append (option_map (target_in at)) m.functions (Some (Mine m.instance (lifting_of m func os ty)) ∷ [])))
    item_linked (Lowers func os ty) m = ap (with_lowered (making_in at m) ty os) (function_in m func) ∙ lowered_in m ty os (option_and_then (λ o. o) (slice_get m.functions func))
    item_linked (MakesResource resource) m = canon_in m takes_and_gives (ResourceNew (partner_in m.resources resource))
    item_linked (DropsResource resource) m = canon_in m takes_one (ResourceDrop (partner_in m.resources resource))
    item_linked (ReadsResource resource) m = canon_in m takes_and_gives (ResourceRep (partner_in m.resources resource))
    item_linked (Imports name item) m =
        ap (λ z. and_bound (and_item (making_in at m) z) (bound z item)) (find_in name m.given)
        ∙ ap (λ z. and_bound (and_item (making_in at m) (option_map (given_in at) (find name m.given))) z) (bound_in (find name m.given) item)
        ∙ ap (λ z. and_bound z (bound (find name m.given) item)) (and_item_in m (find name m.given))
    item_linked (Exports name item stated) m = ap (λ z. and_export (making_in at m) name z stated) (given_at_in m item) ∙ and_export_in m name (given_at m item) stated

    plan_linked : (plan : Plan) (m : Making) → link plan (making_in at m) ≡ making_in at (link plan m)
    plan_linked End m = refl
    plan_linked (Then item rest) m = ap (link rest) (item_linked item m) ∙ plan_linked rest (link_item item m)

pub linked_inside : LinkedInside
linked_inside at plan m = plan_linked at plan m
