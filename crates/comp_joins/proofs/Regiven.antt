-- What a plan makes depends on what is found in what it is given, and on no order, nor on what is given beside what it looks up.
use Rattle.std.proofs.Common.{◌≡◌, ℕ, cond, List, [], ◌∷◌, ◌++◌, Option, Some, None, refl, sym, ◌∙◌, ap, subst}
use Rattle.std.specs.Prelude.{slice_get}
use Rattle.std.specs.List.{flat_map}
use Rattle.std.specs.Option.{option_and_then}
use Rattle.std.proofs.Math.Path.{ap₂}
use Rattle.wasm_ast.specs.declared.module.Module.{Module}
use Rattle.wasm_ast.specs.declared.module.Import.{Import as ModuleImport}
use Rattle.wasm_ast.specs.declared.module.CoreFunc.{CoreFunc}
use Rattle.wasm_ast.specs.declared.component.CoreArg.{CoreArg}
use Rattle.wasm_ast.specs.declared.component.CoreExport.{CoreExport}
use Rattle.wasm_ast.specs.declared.component.CoreSort.{CoreSort}
use Rattle.wasm_ast.specs.declared.component.CoreSort.TheVariants as core_sorts
use Rattle.wasm_ast.specs.declared.component.CanonOption.{CanonOption}
use Rattle.wasm_ast.specs.declared.component.CanonOption.TheVariants.{Utf8, Memory as MemoryOption, Realloc, PostReturn}
use Rattle.core_instance.specs.declared.external.Extern.{Extern}
use Rattle.core_instance.specs.declared.external.Extern.TheVariants.{Func, Table, Memory, Global}
use Rattle.core_instance.specs.declared.external.NamedExtern.{NamedExtern}
use Rattle.wit_types.specs.Plain.{Name, PlainFunc}
use Rattle.comp_types.specs.Items.{Item, Entries, FuncItem, InstanceItem, KindItem, End as NoEntries, More as Entry, same_name}
use Rattle.comp_types.specs.Substitution.{partner_in, func_with}
use Rattle.comp_worlds.specs.Groups.{Target, Mine, LoweredFunc, Begins}
use Rattle.comp_link.specs.Plans.{Named, AFunc, AnInstanceAt, AResource, AValueType, NamedArg, Plan, Planned, End, Then, OfModule, OfCoreItems, CoreItemOf, OfComponent, OfItems, ItemOf, NewResource, Lifts, Lowers, MakesResource, DropsResource, ReadsResource, Imports, Exports}
use Rattle.comp_link.specs.Linking.{Given, Givens, GivenFunc, GivenInstance, GivenResource, GivenType, Nothing, find, and_given, bound, Making, begun, and_stage, place_at, core_item, and_core_item, and_core_instance, core_find, arg_instance, extern_for, externs_for, with_module, named_core, given_at, givens_of, and_item, item_in, and_bound, bound_if, and_export, memory_in, realloc_in, post_in, options_in, with_canon, with_lowered, lifting_of, with_component, link_item, link}
use Rattle.comp_joins.specs.Alike.{AlikeTo, AlikeItem, AlikeBut, IsNothing, IsAny, AllAlike, SameNames, regiven, MadeAlike, Finds, FindsIn, FindsAll, FindsIf, ItemFinds, PlanFinds, IsThere, LinkedAlike, LinkedAmong}
use Rattle.comp_joins.proofs.Finding.{alike_itself, item_itself, inside_alike, and_given_alike, and_given_names, and_some_alike, both_or_none, bound_alike, bound_if_alike, found_only, slice_alike, slice_only, more_alike, instances_alike, items_alike}

flat_map_alike : {A B : Type 0} → (f g : A → List B) (xs : List A) → ((a : A) → f a ≡ g a) → flat_map f xs ≡ flat_map g xs
flat_map_alike f g [] h = refl
flat_map_alike f g (x ∷ xs) h = ap (λ z. z ++ flat_map f xs) (h x) ∙ ap (λ z. g x ++ z) (flat_map_alike f g xs h)

module _ (m : Making) (g : Givens) (i : List Givens) (e : Givens) where
  abbrev other : Making
  other = regiven m g i e

  -- ---- what an instance does by itself

  arg_same : (name : Name) (args : List CoreArg) → arg_instance other name args ≡ arg_instance m name args
  arg_same name [] = refl
  arg_same name (a ∷ args) = ap (λ z. cond (same_name a.name name) (slice_get m.core_instances a.instance) z) (arg_same name args)

  extern_same : (args : List CoreArg) (x : ModuleImport) → extern_for other args x ≡ extern_for m args x
  extern_same args x = ap (λ (z : Option (List NamedExtern)). elim (option_and_then (core_find x.name) z) as (λ (o : Option Extern). List Extern) [ None ↦ [] | Some e ↦ e ∷ [] ]) (arg_same x.module args)

  externs_same : (module' : Module) (args : List CoreArg) → externs_for other module' args ≡ externs_for m module' args
  externs_same module' args = flat_map_alike (extern_for other args) (extern_for m args) module'.imports (extern_same args)

  core_item_same : (sort : CoreSort) (k : ℕ) → core_item other sort k ≡ core_item m sort k
  core_item_same core_sorts.Func k = refl
  core_item_same core_sorts.Table k = refl
  core_item_same core_sorts.Memory k = refl
  core_item_same core_sorts.Global k = refl

  named_core_same : (exports : List CoreExport) → named_core other exports ≡ named_core m exports
  named_core_same [] = refl
  named_core_same (x ∷ xs) =
      ap₂ (λ item rest. record { name = x.name; item = item } ∷ rest) (core_item_same x.sort x.index) (named_core_same xs)

  and_core_item_same : (o : Option Extern) → and_core_item other o ≡ regiven (and_core_item m o) g i e
  and_core_item_same None = refl
  and_core_item_same (Some (Func at)) = refl
  and_core_item_same (Some (Table at)) = refl
  and_core_item_same (Some (Memory at)) = refl
  and_core_item_same (Some (Global at)) = refl

  memory_same : (os : List CanonOption) → memory_in other os ≡ memory_in m os
  memory_same [] = refl
  memory_same (MemoryOption k ∷ os) = refl
  memory_same (Realloc k ∷ os) = memory_same os
  memory_same (PostReturn k ∷ os) = memory_same os
  memory_same (Utf8 ∷ os) = memory_same os

  realloc_same : (os : List CanonOption) → realloc_in other os ≡ realloc_in m os
  realloc_same [] = refl
  realloc_same (MemoryOption k ∷ os) = realloc_same os
  realloc_same (Realloc k ∷ os) = refl
  realloc_same (PostReturn k ∷ os) = realloc_same os
  realloc_same (Utf8 ∷ os) = realloc_same os

  post_same : (os : List CanonOption) → post_in other os ≡ post_in m os
  post_same [] = refl
  post_same (MemoryOption k ∷ os) = post_same os
  post_same (Realloc k ∷ os) = post_same os
  post_same (PostReturn k ∷ os) = refl
  post_same (Utf8 ∷ os) = post_same os

  options_same : (os : List CanonOption) → options_in other os ≡ options_in m os
  options_same os = ap₂ (λ x y. record { memory = x; realloc = y }) (memory_same os) (realloc_same os)

  lifting_same : (func : ℕ) (os : List CanonOption) (ty : PlainFunc) → lifting_of other func os ty ≡ lifting_of m func os ty
  lifting_same func os ty = ap₂ (λ o p. record { code = place_at m.core_functions func; ty = func_with (partner_in m.resources) ty; options = o; post = p }) (options_same os) (post_same os)

  lowered_same : (ty : CoreFunc) (os : List CanonOption) (o : Option Target) → with_lowered other ty os o ≡ regiven (with_lowered m ty os o) g i e
  lowered_same ty os None = refl
  lowered_same ty os (Some target) = ap (λ z. with_canon other ty (LoweredFunc target z)) (options_same os)

module _ (Beyond : Option Given → Type 0) (none : Beyond None) (Found : Option Given → Type 0) (only : (o' : Option Given) → Found None → Beyond o' → o' ≡ None) where
  module _ (m : Making) (g : Givens) (i : List Givens) (e : Givens) where
    -- ---- what it is given

    module _ (given : AlikeBut Beyond m.given g) (instances : AllAlike Beyond m.instances i) (exports : AlikeBut Beyond m.exports e) (names : SameNames m.exports e) where
      -- what is made beside
      beside : (made : Making) → made.given ≡ m.given → made.instances ≡ m.instances → made.exports ≡ m.exports → (x : Making) → x ≡ regiven made g i e → MadeAlike Beyond made x
      beside made sg si se x is =
          subst (MadeAlike Beyond made) (sym is)
          (record {
            is = refl;
            given = subst (λ z. AlikeBut Beyond z g) (sym sg) given;
            instances = subst (λ z. AllAlike Beyond z i) (sym si) instances;
            exports = subst (λ z. AlikeBut Beyond z e) (sym se) exports;
            names = subst (λ z. SameNames z e) (sym se) names;
          })

      core_item_made : (o : Option Extern) → MadeAlike Beyond (and_core_item m o) (and_core_item (other m g i e) o)
      core_item_made o = beside (and_core_item m o) (keeps_given o) (keeps_instances o) (keeps_exports o) (and_core_item (other m g i e) o) (and_core_item_same m g i e o)
        where
          keeps_given : (o : Option Extern) → (and_core_item m o).given ≡ m.given
          keeps_given None = refl
          keeps_given (Some (Func at)) = refl
          keeps_given (Some (Table at)) = refl
          keeps_given (Some (Memory at)) = refl
          keeps_given (Some (Global at)) = refl

          keeps_instances : (o : Option Extern) → (and_core_item m o).instances ≡ m.instances
          keeps_instances None = refl
          keeps_instances (Some (Func at)) = refl
          keeps_instances (Some (Table at)) = refl
          keeps_instances (Some (Memory at)) = refl
          keeps_instances (Some (Global at)) = refl

          keeps_exports : (o : Option Extern) → (and_core_item m o).exports ≡ m.exports
          keeps_exports None = refl
          keeps_exports (Some (Func at)) = refl
          keeps_exports (Some (Table at)) = refl
          keeps_exports (Some (Memory at)) = refl
          keeps_exports (Some (Global at)) = refl

      lowered_made : (ty : CoreFunc) (os : List CanonOption) (o : Option Target) → MadeAlike Beyond (with_lowered m ty os o) (with_lowered (other m g i e) ty os o)
      lowered_made ty os None = beside m refl refl refl (other m g i e) refl
      lowered_made ty os (Some target) = beside (with_lowered m ty os (Some target)) refl refl refl (with_lowered (other m g i e) ty os (Some target)) (lowered_same m g i e ty os (Some target))

      given_at_alike : (named : Named) → AlikeItem Beyond (given_at m named) (given_at (other m g i e) named)
      given_at_alike (AFunc k) = item_itself Beyond none (given_at m (AFunc k)) (given_at m (AFunc k)) refl
      given_at_alike (AnInstanceAt k) = instances_alike Beyond none (slice_get m.instances k) (slice_get i k) (slice_alike Beyond none m.instances i k instances)
      given_at_alike (AResource r) = item_itself Beyond none (given_at m (AResource r)) (given_at m (AResource r)) refl
      given_at_alike AValueType = item_itself Beyond none (Some GivenType) (Some GivenType) refl

      given_at_only : (named : Named) → given_at m named ≡ None → given_at (other m g i e) named ≡ None
      given_at_only (AFunc k) is = is
      given_at_only (AnInstanceAt k) is = slice_only Beyond none (slice_get m.instances k) (slice_get i k) (slice_alike Beyond none m.instances i k instances) is
      given_at_only (AResource r) is = is
      given_at_only AValueType is = is

      givens_of_alike : (args : List NamedArg) → AlikeBut Beyond (givens_of m args) (givens_of (other m g i e) args)
      givens_of_alike [] = alike_itself Beyond none (givens_of m [])
      givens_of_alike (a ∷ args) = and_some_alike Beyond none a.name (givens_of m args) (givens_of (other m g i e) args) (givens_of_alike args) (given_at m a.item) (given_at (other m g i e) a.item) (given_at_only a.item) (given_at_alike a.item)

      -- one more instance
      with_instance : (made : Making) (x y : Givens) → made.given ≡ m.given → made.instances ≡ m.instances ++ x ∷ [] → made.exports ≡ m.exports → AlikeBut Beyond x y → (z : Making) → z ≡ regiven made g (i ++ y ∷ []) e → MadeAlike Beyond made z
      with_instance made x y sg si se k z is =
          subst (MadeAlike Beyond made) (sym is)
          (record {
            is = refl;
            given = subst (λ z. AlikeBut Beyond z g) (sym sg) given;
            instances = subst (λ z. AllAlike Beyond z (i ++ y ∷ [])) (sym si) (more_alike Beyond none m.instances i x y instances k);
            exports = subst (λ z. AlikeBut Beyond z e) (sym se) exports;
            names = subst (λ z. SameNames z e) (sym se) names;
          })

      item_given : (item item' : Given) → AlikeItem Beyond (Some item) (Some item') → MadeAlike Beyond (and_item m (Some item)) (and_item (other m g i e) (Some item'))
      item_given (GivenFunc target) item' k = subst (λ z. MadeAlike Beyond (and_item m (Some (GivenFunc target))) (and_item (other m g i e) z)) (sym (k 1)) (beside (and_item m (Some (GivenFunc target))) refl refl refl _ refl)
      item_given (GivenInstance items) item' k =
          let at = k 1 in
          subst (λ z. MadeAlike Beyond (and_item m (Some (GivenInstance items))) (and_item (other m g i e) z)) (sym at.1)
          (with_instance (and_item m (Some (GivenInstance items))) items at.0 refl refl refl (inside_alike Beyond none items at.0 (λ d. subst (AlikeTo Beyond d (Some (GivenInstance items))) at.1 (k d))) _ refl)
      item_given (GivenResource r) item' k = subst (λ z. MadeAlike Beyond m (and_item (other m g i e) z)) (sym (k 1)) (beside m refl refl refl _ refl)
      item_given GivenType item' k = subst (λ z. MadeAlike Beyond m (and_item (other m g i e) z)) (sym (k 1)) (beside m refl refl refl _ refl)

      item_made : (o o' : Option Given) → (o ≡ None → o' ≡ None) → AlikeItem Beyond o o' → MadeAlike Beyond (and_item m o) (and_item (other m g i e) o')
      item_made o o' only' k = both_or_none Beyond none (λ z z'. MadeAlike Beyond (and_item m z) (and_item (other m g i e) z')) (beside m refl refl refl (other m g i e) refl) item_given o o' only' k

    -- resources are bound alike
    bound_made : (made x : Making) (pairs pairs' : List (ℕ × ℕ)) → pairs ≡ pairs' → MadeAlike Beyond made x → MadeAlike Beyond (and_bound made pairs) (and_bound x pairs')
    bound_made made x pairs pairs' same k =
        subst (λ z. MadeAlike Beyond (and_bound made pairs) (and_bound x z)) same
        (record { is = ap (λ z. and_bound z pairs) k.is; given = k.given; instances = k.instances; exports = k.exports; names = k.names })

    export_made : AlikeBut Beyond m.given g → AllAlike Beyond m.instances i → AlikeBut Beyond m.exports e → SameNames m.exports e → (name : Name) (stated : Option Item) (o o' : Option Given) → (o ≡ None → o' ≡ None) → AlikeItem Beyond o o' → FindsIf Found o stated → MadeAlike Beyond (and_export m name o stated) (and_export (other m g i e) name o' stated)
    export_made given instances exports names name stated o o' only' k =
        both_or_none Beyond none (λ z z'. FindsIf Found z stated → MadeAlike Beyond (and_export m name z stated) (and_export (other m g i e) name z' stated)) (λ f. beside given instances exports names m refl refl refl (other m g i e) refl) one o o' only' k
      where
        one : (item item' : Given) → AlikeItem Beyond (Some item) (Some item') → FindsIf Found (Some item) stated → MadeAlike Beyond (and_export m name (Some item) stated) (and_export (other m g i e) name (Some item') stated)
        one item item' k' f =
            let b = bound_made (and_item m (Some item)) (and_item (other m g i e) (Some item')) (bound_if (Some item) stated) (bound_if (Some item') stated) (bound_if_alike Beyond none Found only stated (Some item) (Some item') k' f) (item_given given instances exports names item item' k') in
            record {
              is = ap (λ (z : Making). record z { exports = and_given e name item' }) b.is;
              given = b.given;
              instances = b.instances;
              exports = and_given_alike Beyond none m.exports e name item item' exports names k';
              names = and_given_names m.exports e name item item' names;
            }

  -- ---- the plan

  mutual
    item_linked : (item : Planned) (m : Making) (g : Givens) (i : List Givens) (e : Givens) → AlikeBut Beyond m.given g → AllAlike Beyond m.instances i → AlikeBut Beyond m.exports e → SameNames m.exports e → ItemFinds Found item m → MadeAlike Beyond (link_item item m) (link_item item (regiven m g i e))
    item_linked (OfModule module' args) m g i e hg hi he hn f =
        beside m g i e hg hi he hn (link_item (OfModule module' args) m) refl refl refl (link_item (OfModule module' args) (regiven m g i e)) (ap (λ z. with_module (regiven m g i e) module' z) (externs_same m g i e module' args))
    item_linked (OfCoreItems exports) m g i e hg hi he hn f =
        beside m g i e hg hi he hn (link_item (OfCoreItems exports) m) refl refl refl (link_item (OfCoreItems exports) (regiven m g i e)) (ap (λ z. and_core_instance (regiven m g i e) z) (named_core_same m g i e exports))
    item_linked (CoreItemOf sort instance name) m g i e hg hi he hn f = core_item_made m g i e hg hi he hn (option_and_then (core_find name) (slice_get m.core_instances instance))
    item_linked (OfComponent component own args) m g i e hg hi he hn f =
        let made = link component (begun (and_stage m.whole Begins) (givens_of m args)) in
        let made' = link component (begun (and_stage m.whole Begins) (givens_of (regiven m g i e) args)) in
        let k : MadeAlike Beyond made made' = plan_linked component _ _ (record { is = refl; given = givens_of_alike m g i e hg hi he hn args; instances = tt; exports = alike_itself Beyond none Nothing; names = λ name is. is }) f in
        with_instance m g i e hg hi he hn (with_component m own made) made.exports made'.exports refl refl refl k.exports
        (with_component (regiven m g i e) own made') (ap (λ z. record (with_component (regiven m g i e) own z) { instances = i ++ made'.exports ∷ [] }) k.is)
    item_linked (OfItems exports) m g i e hg hi he hn f = with_instance m g i e hg hi he hn (link_item (OfItems exports) m) (givens_of m exports) (givens_of (regiven m g i e) exports) refl refl refl (givens_of_alike m g i e hg hi he hn exports) _ refl
    item_linked (ItemOf sort instance name) m g i e hg hi he hn f =
        let k = items_alike Beyond none name (slice_get m.instances instance) (slice_get i instance) (slice_alike Beyond none m.instances i instance hi) in
        item_made m g i e hg hi he hn (item_in (slice_get m.instances instance) name) (item_in (slice_get i instance) name) (found_only Beyond none Found only _ _ f k) k
    item_linked (NewResource resource destructor) m g i e hg hi he hn f = beside m g i e hg hi he hn (link_item (NewResource resource destructor) m) refl refl refl _ refl
    item_linked (Lifts func os ty) m g i e hg hi he hn f =
        beside m g i e hg hi he hn (link_item (Lifts func os ty) m) refl refl refl (link_item (Lifts func os ty) (regiven m g i e)) (ap (λ z. record (regiven m g i e) { functions = m.functions ++ Some (Mine m.instance z) ∷ [] }) (lifting_same m g i e func os ty))
    item_linked (Lowers func os ty) m g i e hg hi he hn f = lowered_made m g i e hg hi he hn ty os (option_and_then (λ o. o) (slice_get m.functions func))
    item_linked (MakesResource resource) m g i e hg hi he hn f = beside m g i e hg hi he hn (link_item (MakesResource resource) m) refl refl refl _ refl
    item_linked (DropsResource resource) m g i e hg hi he hn f = beside m g i e hg hi he hn (link_item (DropsResource resource) m) refl refl refl _ refl
    item_linked (ReadsResource resource) m g i e hg hi he hn f = beside m g i e hg hi he hn (link_item (ReadsResource resource) m) refl refl refl _ refl
    item_linked (Imports name item) m g i e hg hi he hn f =
        bound_made m g i e (and_item m (find name m.given)) (and_item (regiven m g i e) (find name g)) (bound (find name m.given) item) (bound (find name g) item) (bound_alike Beyond none Found only item (find name m.given) (find name g) (hg name) f)
        (item_made m g i e hg hi he hn (find name m.given) (find name g) (found_only Beyond none Found only _ _ f.0 (hg name)) (hg name))
    item_linked (Exports name item stated) m g i e hg hi he hn f =
        export_made m g i e hg hi he hn name stated (given_at m item) (given_at (regiven m g i e) item) (given_at_only m g i e hg hi he hn item) (given_at_alike m g i e hg hi he hn item) f

    pub plan_linked : (plan : Plan) (m m' : Making) → MadeAlike Beyond m m' → PlanFinds Found plan m → MadeAlike Beyond (link plan m) (link plan m')
    plan_linked End m m' h f = h
    plan_linked (Then item rest) m m' h f =
        plan_linked rest (link_item item m) (link_item item m')
        (subst (λ z. MadeAlike Beyond (link_item item m) (link_item item z)) (sym h.is) (item_linked item m m'.given m'.instances m'.exports h.given h.instances h.exports h.names f.0))
        f.1

-- ---- where the same is found, nothing is asked of the plan

abbrev Whatever : Option Given → Type 0
Whatever o = Unit {0}

mutual
  finds_in_whatever : (o : Option Given) (item : Item) → FindsIn Whatever o item
  finds_in_whatever None item = tt
  finds_in_whatever (Some (GivenFunc target)) item = tt
  finds_in_whatever (Some (GivenInstance items)) (FuncItem ty) = tt
  finds_in_whatever (Some (GivenInstance items)) (InstanceItem entries) = finds_all_whatever entries items
  finds_in_whatever (Some (GivenInstance items)) (KindItem kind) = tt
  finds_in_whatever (Some (GivenResource r)) item = tt
  finds_in_whatever (Some GivenType) item = tt

  finds_all_whatever : (entries : Entries) (items : Givens) → FindsAll Whatever items entries
  finds_all_whatever NoEntries items = tt
  finds_all_whatever (Entry name item rest) items = ((tt, finds_in_whatever (find name items) item), finds_all_whatever rest items)

finds_whatever : (o : Option Given) (item : Item) → Finds Whatever o item
finds_whatever o item = (tt, finds_in_whatever o item)

finds_if_whatever : (o : Option Given) (stated : Option Item) → FindsIf Whatever o stated
finds_if_whatever o None = tt
finds_if_whatever o (Some item) = finds_whatever o item

mutual
  item_whatever : (item : Planned) (m : Making) → ItemFinds Whatever item m
  item_whatever (OfModule module' args) m = tt
  item_whatever (OfCoreItems exports) m = tt
  item_whatever (CoreItemOf sort instance name) m = tt
  item_whatever (OfComponent component own args) m = plan_whatever component (begun (and_stage m.whole Begins) (givens_of m args))
  item_whatever (OfItems exports) m = tt
  item_whatever (ItemOf sort instance name) m = tt
  item_whatever (NewResource resource destructor) m = tt
  item_whatever (Lifts func os ty) m = tt
  item_whatever (Lowers func os ty) m = tt
  item_whatever (MakesResource resource) m = tt
  item_whatever (DropsResource resource) m = tt
  item_whatever (ReadsResource resource) m = tt
  item_whatever (Imports name item) m = finds_whatever (find name m.given) item
  item_whatever (Exports name item stated) m = finds_if_whatever (given_at m item) stated

  plan_whatever : (plan : Plan) (m : Making) → PlanFinds Whatever plan m
  plan_whatever End m = tt
  plan_whatever (Then item rest) m = (item_whatever item m, plan_whatever rest (link_item item m))

pub linked_alike : LinkedAlike
linked_alike plan m m' h = plan_linked IsNothing refl Whatever (λ o' found is. is) plan m m' h (plan_whatever plan m)

pub linked_among : LinkedAmong
linked_among plan m m' h f = plan_linked IsAny tt IsThere (λ o' found is. absurd found) plan m m' h f
