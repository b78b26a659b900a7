-- Each definition of a valid component plans a sound step, after which core items fit as before.
use Rattle.std.proofs.Common.{◌≡◌, ◌∙◌, ℕ, List, [], ◌∷◌, ◌++◌, length, true, Option, Some, None, refl, sym, ap, subst}
use Rattle.std.proofs.lemmas.Bool.{false≢true, and_parts}
use Rattle.std.specs.Prelude.{nat_lt, slice_get}
use Rattle.std.specs.List.{list_all}
use Rattle.std.specs.Option.{option_map, option_and_then}
use Rattle.wasm_ast.specs.declared.module.CoreFunc.{CoreFunc}
use Rattle.wasm_ast.specs.declared.module.Module.{Module}
use Rattle.wasm_ast.specs.declared.component.CoreArg.{CoreArg}
use Rattle.wasm_ast.specs.declared.component.CoreInstance.{CoreInstance}
use Rattle.wasm_ast.specs.declared.component.CoreInstance.TheVariants as core_instances
use Rattle.wasm_ast.specs.declared.component.CoreSort.{CoreSort}
use Rattle.wasm_ast.specs.declared.component.Sort.{Sort}
use Rattle.wasm_ast.specs.declared.component.NamedItem.{NamedItem}
use Rattle.wasm_ast.specs.declared.component.Instance.{Instance}
use Rattle.wasm_ast.specs.declared.component.Instance.TheVariants as instances
use Rattle.wasm_ast.specs.declared.component.Alias.{Alias}
use Rattle.wasm_ast.specs.declared.component.Alias.TheVariants as aliases
use Rattle.wasm_ast.specs.declared.component.TypeDef.{TypeDef}
use Rattle.wasm_ast.specs.declared.component.TypeDef.TheVariants as defs
use Rattle.wasm_ast.specs.declared.component.CanonOption.{CanonOption}
use Rattle.wasm_ast.specs.declared.component.Canon.{Canon}
use Rattle.wasm_ast.specs.declared.component.Canon.TheVariants as canons
use Rattle.wasm_ast.specs.declared.component.ComponentImport.{ComponentImport}
use Rattle.wasm_ast.specs.declared.component.ComponentExport.{ComponentExport}
use Rattle.core_validate.specs.declared.item.CoreItem.{CoreItem}
use Rattle.core_validate.specs.declared.item.CoreItem.TheVariants as core_items
use Rattle.core_validate.specs.declared.item.CoreExport.{CoreExport}
use Rattle.core_validate.specs.declared.item.ModuleType.{ModuleType}
use Rattle.core_validate.specs.Typed.{type_of as module_type}
use Rattle.core_validate.specs.Validity.{IsValidModule}
use Rattle.core_store.specs.declared.value.StoreFunc.{StoreFunc}
use Rattle.core_store.specs.declared.value.StoreFunc.TheVariants.{Outside}
use Rattle.core_store.specs.State.{State}
use Rattle.core_store.specs.Scene.{Grew}
use Rattle.core_instance.specs.declared.external.Extern.{Extern}
use Rattle.core_instance.specs.declared.external.NamedExtern.{NamedExtern}
use Rattle.core_instance.specs.Exported.{AreGiven}
use Rattle.core_instance.specs.Instantiation.{allocated, instance_of}
use Rattle.core_instance.specs.Matching.{HasCounts, IsOfType}
use Rattle.core_instance.proofs.FineLemmas.{grows}
use Rattle.wit_types.specs.Plain.{Name}
use Rattle.comp_types.specs.Items.{Item, Kind, Entries, ResourceKind, ValueKind, FuncKind, InstanceKind, look_up}
use Rattle.comp_types.specs.Declarations.{Declaration, ATypeDef, AnInstanceType, ATypeAlias, ATypeExport}
use Rattle.comp_types.specs.Definitions.{Definition, ACoreInstance, AnInstance, AnAlias, AType, ACanon, AnImport, AnExport}
use Rattle.comp_types.specs.CoreMatching.{core_look_up}
use Rattle.comp_types.specs.Flat.{lowered_type}
use Rattle.comp_types.specs.Spaces.{Space, TypeEntry, NestedComponent, core_func_at, kind_at, and_core_item}
use Rattle.comp_types.specs.Types.{resource_in}
use Rattle.comp_types.specs.Added.{exports_in, and_core_instance, and_some_core_item, lowered_at, takes_one, takes_and_gives, named_items, described, after}
use Rattle.comp_types.specs.Rules.{if_there, lengths_of, item_stands, desc_stands, option_stands, core_import_given, core_import_met, has_item, has_core_item, is_of_sort, is_of_core_sort, exports_sort, is_resource, is_destructor, lower_options, MeetsComponent}
use Rattle.comp_types.specs.Validity.{IsValidDefinition, AllHold}
use Rattle.comp_types.specs.Substitution.{partner_in}
use Rattle.comp_worlds.specs.Groups.{Target, type_of, Begins, LoweredFunc, ResourceNew, ResourceDrop, ResourceRep, Func as Canonical}
use Rattle.comp_link.specs.Plans.{Plan, End, OfModule, OfComponent, Lowers, MakesResource, DropsResource, ReadsResource, Imports, Exports, Scope, if_some, just, named_by, named_args, of_core_instance, own_numbers, of_instance, of_alias, of_type, of_canon, planned_by}
use Rattle.comp_link.specs.Linking.{Givens, find, Whole, Making, begun, and_stage, place_at, core_find, externs_for, with_canon, with_lowered, given_at, givens_of, item_in, options_in, link, and_core_item as and_made_core}
use Rattle.comp_link.proofs.Shapes.{Has, found, has_given, has_exports}
use Rattle.comp_link.proofs.Kept.{Within, found_new}
use Rattle.comp_link.proofs.ItemLaws.{Both, both_and, both_get, get_there, IsFunc, Fits, item_there, given_there, named_fit}
use Rattle.comp_link.proofs.Made.{ScopeIs}
use Rattle.comp_joins.specs.Fits.{HasCode, HasCodeIfAny}
use Rattle.comp_joins.specs.Sound.{IsThere, AreThere, IsSoundPlan}
use Rattle.comp_joins.proofs.Core.{Places, places_in, CoreTypes, core_of, CoreFits, FuncGiven, InstanceGiven, functions_later, tables_later, memories_later, globals_later, instances_later, grew_function}
use Rattle.comp_joins.proofs.SoundNames.{found_given, extern_fits, items_given}
use Rattle.comp_joins.proofs.Given.{exports_given, start_given}
use Rattle.comp_joins.proofs.Imports.{imports_given}
use Rattle.comp_joins.proofs.Canons.{code_of_type, lifting_fits, lowering_fits}
use Rattle.comp_joins.proofs.Kept.{outer_core, with_instance, with_alias, with_import, with_export, with_declaration, made_places, exported_places, same_core}

-- a valid module of this type
pub record IsModuleOf (m : Module) (ty : ModuleType) : Type 0 where
  pub is : ty ≡ module_type m
  pub valid : IsValidModule m
  pub counts : HasCounts m

-- whatever was made before, the plan is sound with imports of the component's type
abbrev pub IsSoundOf : Plan → NestedComponent → Type 0
IsSoundOf plan c = (whole : Whole) (given : Givens) → Has given c.signature.imports → IsSoundPlan plan (begun whole given)

pub record Step (plan : Plan) (m : Making) (t : CoreTypes) : Type 0 where
  pub sound : IsSoundPlan plan m
  pub core : CoreFits (places_in (link plan m)) t

no_step : (m : Making) (s : Space) (t : CoreTypes) → t ≡ core_of s → CoreFits (places_in m) (core_of s) → Step End m t
no_step m s t e h = record { sound = tt; core = subst (CoreFits (places_in m)) (sym e) h }

-- ---- core instances

grown_fits : (p : Places) (t : CoreTypes) (shadow : State) → Grew p.shadow shadow → CoreFits p t → CoreFits (record p { shadow = shadow }) t
grown_fits p t shadow g h = record {
  functions = functions_later p.shadow shadow g p.functions t.functions h.functions;
  tables = tables_later p.shadow shadow g p.tables t.tables h.tables;
  memories = memories_later p.shadow shadow g p.memories t.memories h.memories;
  globals = globals_later p.shadow shadow g p.globals t.globals h.globals;
  instances = instances_later p.shadow shadow g p.instances t.instances h.instances;
}

one_instance : (p : Places) (t : CoreTypes) (xs : List NamedExtern) (es : List CoreExport) → AreGiven p.shadow es xs → CoreFits p t → CoreFits (record p { instances = p.instances ++ xs ∷ [] }) (record t { instances = t.instances ++ es ∷ [] })
one_instance p t xs es given h = record { functions = h.functions; tables = h.tables; memories = h.memories; globals = h.globals; instances = both_and (InstanceGiven p.shadow) p.instances t.instances xs es h.instances given }

module _ (scope : Scope) (m : Making) (s : Space) (h : CoreFits (places_in m) (core_of s)) where
  module_instance : (k : Module) (ty : ModuleType) (args : List CoreArg) → IsModuleOf k ty → list_all (λ a. nat_lt a.instance (length s.core_instances)) args ≡ true
      → list_all (core_import_given s args) ty.imports ≡ true → list_all (core_import_met s args) ty.imports ≡ true → Step (just (OfModule k args)) m (core_of (and_core_instance s ty.exports))
  module_instance k ty args is stand given met =
      let externs : List Extern = externs_for m k args in
      let shadow : State = allocated m.shadow k externs in
      let g = imports_given m s k args h stand is.valid (subst (λ z. list_all (core_import_given s args) z.imports ≡ true) is.is given) (subst (λ z. list_all (core_import_met s args) z.imports ≡ true) is.is met) in
      let gives : AreGiven shadow ty.exports (instance_of m.shadow k externs).exports = subst (λ z. AreGiven shadow z.exports (instance_of m.shadow k externs).exports) (sym is.is) (exports_given m.shadow k externs is.valid g.1 is.counts g.0) in
      let p : Places = record (places_in m) { shadow = shadow } in
      record {
        sound = (record { valid = is.valid; counts = is.counts; imports_match = g.0; imports_there = g.1; start = start_given m.shadow k externs is.valid g.1 is.counts g.0 }, tt);
        core = one_instance p (core_of s) (instance_of m.shadow k externs).exports ty.exports gives (grown_fits (places_in m) (core_of s) shadow (grows m.shadow k externs) h);
      }

  core_instance_step : (around : List Space) (i : CoreInstance) → Both IsModuleOf scope.modules s.core_modules → AllHold around s (ACoreInstance i) → Step (of_core_instance scope i) m (core_of (after around s (ACoreInstance i)))
  core_instance_step around (core_instances.Instantiate k args) modules v =
      let stand = and_parts (nat_lt k (length s.core_modules)) (list_all (λ a. nat_lt a.instance (length s.core_instances)) args) ((v 3).indexes refl) in
      let ty = get_there s.core_modules k stand.0 in
      let x = both_get IsModuleOf scope.modules s.core_modules k ty.0 modules ty.1 in
      let given = (and_parts _ (if_there (λ (t : ModuleType). list_all (core_import_given s args) t.imports) (slice_get s.core_modules k)) ((v 4).core_arguments refl)).1 in
      let given' = subst (λ o. if_there (λ (t : ModuleType). list_all (core_import_given s args) t.imports) o ≡ true) ty.1 given in
      let met = subst (λ o. if_there (λ (t : ModuleType). list_all (core_import_met s args) t.imports) o ≡ true) ty.1 ((v 5).core_types refl) in
      subst (λ o. Step (if_some (λ module'. OfModule module' args) o) m (core_of (and_core_instance s (exports_in (slice_get s.core_modules k))))) (sym x.1)
      (subst (λ o. Step (just (OfModule x.0 args)) m (core_of (and_core_instance s (exports_in o)))) (sym ty.1) (module_instance x.0 ty.0 args x.2 stand.1 given' met))
  core_instance_step around (core_instances.Inline exports) modules v = record {
    sound = (tt, tt);
    core = one_instance (places_in m) (core_of s) _ _ (items_given m s exports h ((v 3).indexes refl)) h;
  }

  -- ---- aliases

  core_alias_step : (around : List Space) (sort : CoreSort) (i : ℕ) (name : Name) → AllHold around s (AnAlias (aliases.CoreExport sort i name)) → Step (of_alias (aliases.CoreExport sort i name)) m (core_of (after around s (AnAlias (aliases.CoreExport sort i name))))
  core_alias_step around sort i name v =
      let es = get_there s.core_instances i ((v 3).indexes refl) in
      let xs = both_get (InstanceGiven m.shadow) m.core_instances s.core_instances i es.0 h.instances es.1 in
      at_item es.0 es.1 xs.0 xs.1 xs.2 (core_look_up name es.0) refl (subst (λ o. if_there (λ (exports : List CoreExport). has_core_item (is_of_core_sort sort) (core_look_up name exports)) o ≡ true) es.1 ((v 7).aliases refl))
    where
      at_item : (es : List CoreExport) → slice_get s.core_instances i ≡ Some es → (xs : List NamedExtern) → slice_get m.core_instances i ≡ Some xs → AreGiven m.shadow es xs → (o : Option CoreItem) → core_look_up name es ≡ o
          → has_core_item (is_of_core_sort sort) o ≡ true → Step (of_alias (aliases.CoreExport sort i name)) m (core_of (after around s (AnAlias (aliases.CoreExport sort i name))))
      at_item es is xs is' given None e never = absurd (false≢true never)
      at_item es is xs is' given (Some x) e of =
          let f = found_given m.shadow es xs name x given e in
          let there : option_and_then (core_find name) (slice_get m.core_instances i) ≡ Some f.extern = ap (option_and_then (core_find name)) is' ∙ f.there in
          let typed : option_and_then (core_look_up name) (slice_get s.core_instances i) ≡ Some x = ap (option_and_then (core_look_up name)) is ∙ e in
          record {
            sound = ((f.extern, there), tt);
            core = subst (λ o. CoreFits (places_in (and_made_core m o)) (core_of (and_some_core_item s (option_and_then (core_look_up name) (slice_get s.core_instances i))))) (sym there)
                (subst (λ o. CoreFits (places_in (and_made_core m (Some f.extern))) (core_of (and_some_core_item s o))) (sym typed) (extern_fits m s x f.extern h f.given));
          }

  -- ---- canonical functions

  canon_more : (ty : CoreFunc) (canon : Canonical) → CoreFits (places_in (with_canon m ty canon)) (core_of (and_core_item s (core_items.Func ty)))
  canon_more ty canon =
      let f : StoreFunc = Outside ty m.canons in
      let shadow : State = record m.shadow { functions = m.shadow.functions ++ f ∷ [] } in
      let later = grown_fits (places_in m) (core_of s) shadow (grew_function m.shadow f) h in
      let here : HasCode shadow (length m.shadow.functions) ty = subst (IsOfType (Some ty)) (sym (at_end m.shadow.functions f)) refl in
      record { functions = both_and (FuncGiven shadow) m.core_functions s.core_functions (length m.shadow.functions) (core_items.Func ty) later.functions here; tables = later.tables; memories = later.memories; globals = later.globals; instances = later.instances }
    where
      at_end : {A : Type 0} (xs : List A) (x : A) → slice_get (xs ++ x ∷ []) (length xs) ≡ Some x
      at_end [] x = refl
      at_end (y ∷ xs) x = at_end xs x

  lower_step : (imports : Entries) (around : List Space) (func : ℕ) (os : List CanonOption) → Fits imports m s → AllHold around s (ACanon (canons.Lower func os)) → Step (of_canon s (canons.Lower func os)) m (core_of (after around s (ACanon (canons.Lower func os))))
  lower_step imports around func os fits v =
      let stand = and_parts (nat_lt func (length s.functions)) (list_all (option_stands (lengths_of s)) os) ((v 3).indexes refl) in
      let ty = get_there s.functions func stand.0 in
      let x = both_get IsFunc m.functions s.functions func ty.0 fits.functions ty.1 in
      let called : Target = x.2.0 in
      let there : slice_get m.functions func ≡ Some (Some called) = x.1 ∙ ap Some x.2.1 in
      let sound : lower_options (core_func_at s) ty.0 os ≡ true = subst (λ o. if_there (λ z. lower_options (core_func_at s) z os) o ≡ true) ty.1 ((v 17).options refl) in
      subst (λ o. Step (just (Lowers func os (lowered_at o))) m (core_of (and_core_item s (core_items.Func (lowered_at o))))) (sym ty.1)
      (record {
        sound = ((called, there, lowering_fits m s h ty.0 (type_of called) os (sym x.2.2) stand.1 sound), tt);
        core = subst (λ o. CoreFits (places_in (with_lowered m (lowered_type ty.0) os (option_and_then (λ z. z) o))) (core_of (and_core_item s (core_items.Func (lowered_type ty.0))))) (sym there)
            (canon_more (lowered_type ty.0) (LoweredFunc called (options_in m os)));
      })

  -- a resource stands at the index
  resource_there : (i : ℕ) → nat_lt i (length s.types) ≡ true → if_there is_resource (kind_at s i) ≡ true → (r : ℕ) × (resource_in (kind_at s i) ≡ Some r)
  resource_there i lt is =
      let x = get_there s.types i lt in
      let kind : kind_at s i ≡ Some x.0.kind = ap (option_map (λ (e : TypeEntry). e.kind)) x.1 in
      let r = of_kind x.0.kind (subst (λ o. if_there is_resource o ≡ true) kind is) in
      (r.0, ap resource_in kind ∙ r.1)
    where
      of_kind : (k : Kind) → is_resource k ≡ true → (r : ℕ) × (resource_in (Some k) ≡ Some r)
      of_kind (ResourceKind r) is' = (r, refl)
      of_kind (ValueKind ty) is' = absurd (false≢true is')
      of_kind (FuncKind ty) is' = absurd (false≢true is')
      of_kind (InstanceKind own entries) is' = absurd (false≢true is')

  canon_step : (imports : Entries) (around : List Space) (c : Canon) → Fits imports m s → AllHold around s (ACanon c) → Step (of_canon s c) m (core_of (after around s (ACanon c)))
  canon_step imports around (canons.Lift func os ty) fits v = record { sound = (lifting_fits m s h around func os ty v, tt); core = h }
  canon_step imports around (canons.Lower func os) fits v = lower_step imports around func os fits v
  canon_step imports around (canons.ResourceNew ty) fits v =
      let r = resource_there ty ((v 3).indexes refl) ((v 12).resources refl) in
      subst (λ o. Step (if_some MakesResource o) m (core_of (and_core_item s (core_items.Func takes_and_gives)))) (sym r.1) (record { sound = (tt, tt); core = canon_more takes_and_gives (ResourceNew (partner_in m.resources r.0)) })
  canon_step imports around (canons.ResourceDrop ty) fits v =
      let r = resource_there ty ((v 3).indexes refl) ((v 12).resources refl) in
      subst (λ o. Step (if_some DropsResource o) m (core_of (and_core_item s (core_items.Func takes_one)))) (sym r.1) (record { sound = (tt, tt); core = canon_more takes_one (ResourceDrop (partner_in m.resources r.0)) })
  canon_step imports around (canons.ResourceRep ty) fits v =
      let r = resource_there ty ((v 3).indexes refl) ((v 12).resources refl) in
      subst (λ o. Step (if_some ReadsResource o) m (core_of (and_core_item s (core_items.Func takes_and_gives)))) (sym r.1) (record { sound = (tt, tt); core = canon_more takes_and_gives (ResourceRep (partner_in m.resources r.0)) })

  -- ---- types

  destructor_fits : (o : Option ℕ) → if_there (λ i. nat_lt i (length s.core_functions)) o ≡ true → if_there (λ i. if_there is_destructor (core_func_at s i)) o ≡ true → HasCodeIfAny m.shadow (option_map (place_at m.core_functions) o) takes_one
  destructor_fits None stand is = tt
  destructor_fits (Some i) stand is = code_of_type m s h i takes_one stand is

  type_def_step : (around : List Space) (d : TypeDef) → AllHold around s (AType (ATypeDef d)) → IsSoundPlan (of_type s (ATypeDef d)) m
  type_def_step around (defs.Resource destructor) v =
      (destructor_fits destructor ((v 3).indexes refl) (and_parts s.is_component (if_there (λ i. if_there is_destructor (core_func_at s i)) destructor) ((v 14).destructors refl)).1, tt)
  type_def_step around (defs.Primitive p) v = tt
  type_def_step around (defs.Record fields) v = tt
  type_def_step around (defs.Variant cases) v = tt
  type_def_step around (defs.List item) v = tt
  type_def_step around (defs.Tuple types) v = tt
  type_def_step around (defs.Flags labels) v = tt
  type_def_step around (defs.Enum labels) v = tt
  type_def_step around (defs.Option item) v = tt
  type_def_step around (defs.Result ok err) v = tt
  type_def_step around (defs.Own i) v = tt
  type_def_step around (defs.Borrow i) v = tt
  type_def_step around (defs.Func params result) v = tt
  type_def_step around (defs.Instance declarations) v = tt

  type_places : (d : TypeDef) → places_in (link (of_type s (ATypeDef d)) m) ≡ places_in m
  type_places (defs.Resource destructor) = refl
  type_places (defs.Primitive p) = refl
  type_places (defs.Record fields) = refl
  type_places (defs.Variant cases) = refl
  type_places (defs.List item) = refl
  type_places (defs.Tuple types) = refl
  type_places (defs.Flags labels) = refl
  type_places (defs.Enum labels) = refl
  type_places (defs.Option item) = refl
  type_places (defs.Result ok err) = refl
  type_places (defs.Own i) = refl
  type_places (defs.Borrow i) = refl
  type_places (defs.Func params result) = refl
  type_places (defs.Instance declarations) = refl

  type_step : (around : List Space) (d : Declaration) → IsValidDefinition around s (AType d) → Step (of_type s d) m (core_of (after around s (AType d)))
  type_step around (ATypeDef d) v = record {
    sound = type_def_step around d v;
    core = same_core (places_in m) (places_in (link (of_type s (ATypeDef d)) m)) (core_of s) (core_of (after around s (AType (ATypeDef d)))) (type_places d) (with_declaration around s (ATypeDef d)).core h;
  }
  type_step around (AnInstanceType ds) v = no_step m s (core_of (after around s (AType (AnInstanceType ds)))) (with_declaration around s (AnInstanceType ds)).core h
  type_step around (ATypeAlias a) v = no_step m s (core_of (after around s (AType (ATypeAlias a)))) (with_declaration around s (ATypeAlias a)).core h
  type_step around (ATypeExport name desc) v = no_step m s (core_of (after around s (AType (ATypeExport name desc)))) (with_declaration around s (ATypeExport name desc)).core h

  -- ---- what is named

  module _ (imports : Entries) (fits : Fits imports m s) where
    all_there : (es : List NamedItem) → list_all (λ e. item_stands (lengths_of s) e.sort e.index) es ≡ true → AreThere m (named_args s es)
    all_there [] stand = tt
    all_there (e ∷ es) stand =
        let p = and_parts (item_stands (lengths_of s) e.sort e.index) (list_all (λ x. item_stands (lengths_of s) x.sort x.index) es) stand in
        let item = item_there s e.sort e.index p.0 in
        let g = given_there imports m s e.sort e.index item.0 fits item.1 in
        ((g.0, g.1), all_there es p.1)

    alias_there : (around : List Space) (sort : Sort) (i : ℕ) (name : Name) → AllHold around s (AnAlias (aliases.Export sort i name)) → IsThere (item_in (slice_get m.instances i) name)
    alias_there around sort i name v =
        let es = get_there s.instances i ((v 3).indexes refl) in
        let x = both_get Has m.instances s.instances i es.0 fits.instances es.1 in
        at_item es.0 x.0 x.1 x.2 (look_up name es.0) refl (subst (λ o. if_there (exports_sort sort name) o ≡ true) es.1 ((v 7).aliases refl))
      where
        at_item : (es : Entries) (items : Givens) → slice_get m.instances i ≡ Some items → Has items es → (o : Option Item) → look_up name es ≡ o → has_item (is_of_sort sort) o ≡ true → IsThere (item_in (slice_get m.instances i) name)
        at_item es items is has None e never = absurd (false≢true never)
        at_item es items is has (Some item) e of = let f = found items name item (has name item e) in (f.given, ap (λ o. item_in o name) is ∙ f.there)

    alias_step : (around : List Space) (a : Alias) → AllHold around s (AnAlias a) → Step (of_alias a) m (core_of (after around s (AnAlias a)))
    alias_step around (aliases.Export sort i name) v = record {
      sound = (alias_there around sort i name v, tt);
      core = same_core (places_in m) (places_in (link (of_alias (aliases.Export sort i name)) m)) (core_of s) (core_of (after around s (AnAlias (aliases.Export sort i name)))) (made_places m (item_in (slice_get m.instances i) name)) (with_alias around s sort i name).core h;
    }
    alias_step around (aliases.CoreExport sort i name) v = core_alias_step around sort i name v
    alias_step around (aliases.Outer sort count index) v = no_step m s (core_of (after around s (AnAlias (aliases.Outer sort count index)))) (outer_core s sort (slice_get (s ∷ around) count) index) h

    -- ---- instances

    component_sound : (plan : Plan) (c : NestedComponent) (own : List (ℕ × ℕ)) (args : List NamedItem) → IsSoundOf plan c → MeetsComponent (named_items s args) (Some c)
        → list_all (λ e. item_stands (lengths_of s) e.sort e.index) args ≡ true → IsSoundPlan (just (OfComponent plan own (named_args s args))) m
    component_sound plan c own args is meets stand =
        let given : Givens = givens_of m (named_args s args) in
        let has : Has given c.signature.imports = has_given (λ x y. x ≡ meets.0 y) given (named_items s args) c.signature.imports meets.1 (has_exports given (named_items s args) (named_fit imports m s args fits stand)) in
        ((all_there args stand, is (and_stage m.whole Begins) given has), tt)

    instance_sound : (around : List Space) (i : Instance) → ScopeIs IsSoundOf scope s → AllHold around s (AnInstance i) → IsSoundPlan (of_instance scope s i) m
    instance_sound around (instances.Instantiate k args) plans v =
        let stand = and_parts (nat_lt k (length s.components)) (list_all (λ a. item_stands (lengths_of s) a.sort a.index) args) ((v 3).indexes refl) in
        let c = get_there s.components k stand.0 in
        let plan = both_get IsSoundOf scope.components s.components k c.0 plans c.1 in
        let meets : MeetsComponent (named_items s args) (Some c.0) = subst (MeetsComponent (named_items s args)) c.1 ((v 23).arguments refl).1 in
        subst (λ z. IsSoundPlan (if_some (λ p. OfComponent p (own_numbers s (slice_get s.components k)) (named_args s args)) z) m) (sym plan.1)
        (component_sound plan.0 c.0 (own_numbers s (slice_get s.components k)) args plan.2 meets stand.1)
    instance_sound around (instances.Inline exports) plans v = (all_there exports ((v 3).indexes refl), tt)

    instance_places : (i : Instance) → places_in (link (of_instance scope s i) m) ≡ places_in m
    instance_places (instances.Instantiate k args) = go (slice_get scope.components k)
      where
        go : (o : Option Plan) → places_in (link (if_some (λ p. OfComponent p (own_numbers s (slice_get s.components k)) (named_args s args)) o) m) ≡ places_in m
        go None = refl
        go (Some plan) = refl
    instance_places (instances.Inline exports) = refl

    instance_step : (around : List Space) (i : Instance) → ScopeIs IsSoundOf scope s → AllHold around s (AnInstance i) → Step (of_instance scope s i) m (core_of (after around s (AnInstance i)))
    instance_step around i plans v = record {
      sound = instance_sound around i plans v;
      core = same_core (places_in m) (places_in (link (of_instance scope s i) m)) (core_of s) (core_of (after around s (AnInstance i))) (instance_places i) (with_instance around s i).core h;
    }

    -- ---- imports and exports

    import_step : (around : List Space) (i : ComponentImport) → AllHold around s (AnImport i) → Within (after around s (AnImport i)).imports imports → Step (just (Imports i.name (described s i.desc))) m (core_of (after around s (AnImport i)))
    import_step around i v within =
        let item : Item = described s i.desc in
        let f = found m.given i.name item (fits.given i.name item (within i.name item (found_new s.imports i.name item ((v 19).import_names refl)))) in
        record {
          sound = ((f.given, f.there), tt);
          core = same_core (places_in m) (places_in (link (just (Imports i.name item)) m)) (core_of s) (core_of (after around s (AnImport i))) (made_places m (find i.name m.given)) (with_import around s i.name i.desc).core h;
        }

    export_step : (around : List Space) (e : ComponentExport) → AllHold around s (AnExport e) → Step (just (Exports e.name (named_by s e.sort e.index) (option_map (described s) e.desc))) m (core_of (after around s (AnExport e)))
    export_step around e v =
        let stand = and_parts (item_stands (lengths_of s) e.sort e.index) (if_there (desc_stands (lengths_of s)) e.desc) ((v 3).indexes refl) in
        let item = item_there s e.sort e.index stand.0 in
        let g = given_there imports m s e.sort e.index item.0 fits item.1 in
        record {
          sound = ((g.0, g.1), tt);
          core = same_core (places_in m) (places_in (link (just (Exports e.name (named_by s e.sort e.index) (option_map (described s) e.desc))) m)) (core_of s) (core_of (after around s (AnExport e)))
              (exported_places m e.name (given_at m (named_by s e.sort e.index)) (option_map (described s) e.desc)) (with_export around s e).core h;
        }

    -- ---- each definition

    pub defined_step : (around : List Space) (d : Definition) → ScopeIs IsSoundOf scope s → Both IsModuleOf scope.modules s.core_modules → IsValidDefinition around s d → Within (after around s d).imports imports
        → Step (planned_by scope s d) m (core_of (after around s d))
    defined_step around (ACoreInstance i) plans modules v within = core_instance_step around i modules v
    defined_step around (AnInstance i) plans modules v within = instance_step around i plans v
    defined_step around (AnAlias a) plans modules v within = alias_step around a v
    defined_step around (AType d) plans modules v within = type_step around d v
    defined_step around (ACanon c) plans modules v within = canon_step imports around c fits v
    defined_step around (AnImport i) plans modules v within = import_step around i v within
    defined_step around (AnExport e) plans modules v within = export_step around e v
