-- What a component exports as it is made is what its type exports.
use Rattle.std.proofs.Common.{◌≡◌, ℕ, zero, suc, List, [], ◌∷◌, ◌++◌, length, map, cond, Option, Some, None, Bool, true, false, refl, sym, subst}
use Rattle.std.specs.Prelude.{slice_get, nat_lt}
use Rattle.std.specs.Option.{option_map, option_and_then}
use Rattle.std.specs.List.{list_all}
use Rattle.std.proofs.lemmas.Bool.{false≢true, and_parts}
use Rattle.wasm_ast.specs.declared.module.Module.{Module}
use Rattle.wasm_ast.specs.declared.component.CoreInstance.{CoreInstance}
use Rattle.wasm_ast.specs.declared.component.CoreInstance.TheVariants as core_instances
use Rattle.wasm_ast.specs.declared.component.Sort.{Sort}
use Rattle.wasm_ast.specs.declared.component.Sort.TheVariants as sorts
use Rattle.wasm_ast.specs.declared.component.NamedItem.{NamedItem}
use Rattle.wasm_ast.specs.declared.component.Instance.{Instance}
use Rattle.wasm_ast.specs.declared.component.Instance.TheVariants as instances
use Rattle.wasm_ast.specs.declared.component.OuterSort.{OuterSort}
use Rattle.wasm_ast.specs.declared.component.OuterSort.TheVariants as outer_sorts
use Rattle.wasm_ast.specs.declared.component.Alias.{Alias}
use Rattle.wasm_ast.specs.declared.component.Alias.TheVariants as aliases
use Rattle.wasm_ast.specs.declared.component.TypeAlias.TheVariants as type_aliases
use Rattle.wasm_ast.specs.declared.component.TypeDef.{TypeDef}
use Rattle.wasm_ast.specs.declared.component.TypeDef.TheVariants as defs
use Rattle.wasm_ast.specs.declared.component.ExternDesc.{ExternDesc}
use Rattle.wasm_ast.specs.declared.component.Canon.{Canon}
use Rattle.wasm_ast.specs.declared.component.Canon.TheVariants as canons
use Rattle.wasm_ast.specs.declared.component.ComponentImport.{ComponentImport}
use Rattle.wasm_ast.specs.declared.component.ComponentExport.{ComponentExport}
use Rattle.core_validate.specs.declared.item.CoreItem.{CoreItem}
use Rattle.core_validate.specs.declared.item.CoreItem.TheVariants as core_items
use Rattle.core_validate.specs.declared.item.ModuleType.{ModuleType}
use Rattle.wit_types.specs.Plain.{Name}
use Rattle.comp_types.specs.Items.{Item, Entries, FuncItem, InstanceItem, KindItem, ResourceKind, ValueKind, FuncKind, InstanceKind, End as NoEntries, More as Entry, same_name, look_up}
use Rattle.comp_types.specs.Substitution.{partner_in}
use Rattle.comp_grammar.specs.Trees.{Part, Tree, CoreModule, Nested, CoreInstances, Instances, Aliases, Types, Canons, Imports as ImportsPart, Exports as ExportsPart, Custom, End as NoParts, More as Section}
use Rattle.comp_types.specs.Declarations.{Declaration, Declarations, ATypeDef, AnInstanceType, ATypeAlias, ATypeExport, Done, Then as ThenDeclared, grouped}
use Rattle.comp_types.specs.Definitions.{Definition, ACoreInstance, AnInstance, AnAlias, AType, ACanon, AnImport, AnExport, definitions, types_in}
use Rattle.comp_types.specs.Spaces.{Space, TypeEntry, NestedComponent, item_at, kind_at}
use Rattle.comp_types.specs.Types.{func_in, resource_in}
use Rattle.comp_types.specs.GivenResources.{given_by, numbered}
use Rattle.comp_types.specs.CoreMatching.{core_look_up}
use Rattle.comp_types.specs.Added.{and_again, and_index, and_export_index, and_instantiated, and_some_item, and_some_core_item, and_some_type, and_some_module, and_some_component, and_some_entry, and_outer, and_instance, described, exported, named_items, after, after_all, after_part, after_tree, entered, nested_of, root}
use Rattle.comp_types.specs.Rules.{is_of_sort, exports_sort, has_item, if_there, lengths_of, item_stands, desc_stands, IsStated, IsStatedIfAny, MeetsComponent}
use Rattle.comp_types.specs.Validity.{IsValidDefinition, AllHold, AreValid, IsValidPart, IsValidTree}
use Rattle.comp_worlds.specs.Groups.{Begins}
use Rattle.comp_link.specs.Plans.{Plan, End, Then, OfModule, OfComponent, MakesResource, DropsResource, ReadsResource, Imports, Exports, Scope, no_scope, and_plan, and_module, if_some, just, followed, named_by, named_args, of_core_instance, own_numbers, of_instance, of_alias, of_type, of_canon, planned_by, and_outer as scope_and_outer, scope_after, plan_all, plan_part, plan_tree}
use Rattle.comp_link.specs.Linking.{Given, Givens, find, Whole, Making, begun, and_stage, core_find, and_given, givens_of, and_item as and_made, item_in, and_export, link_item, link, outside, all_outside, all_known, behind_known}
use Rattle.comp_link.specs.Sections.{IsDefined, AreDefined, DefinesIn, DefinesTypes}
use Rattle.comp_link.specs.Exports.{Either, IsOf, Finds, AreExportsOf, ExportsAreLinked}
use Rattle.comp_link.proofs.Passing.{passing_with}
use Rattle.comp_link.proofs.Shapes.{some_same, Has, found, has_given, has_with, has_exports, exports_and}
use Rattle.comp_link.proofs.Kept.{Within, found_new, with_outer_type, with_outer_module, with_instance, with_index, with_alias, with_core_alias, with_canon, with_export, with_declaration, all_within, tree_within, then_within}
use Rattle.comp_link.proofs.ItemLaws.{Both, both_and, both_get, both_none, get_there, IsFunc, Fits, item_fits, core_fits, lowered_fits, item_there, given_there, named_fit, index_fits, stated_fits}

-- ---- plans

pub link_followed : (p q : Plan) (m : Making) → link (followed p q) m ≡ link q (link p m)
link_followed End q m = refl
link_followed (Then item p) q m = link_followed p q (link_item item m)

-- whatever was made before, what it makes of these imports has these exports
abbrev pub IsPlanOf : Plan → NestedComponent → Type 0
IsPlanOf plan c = (whole : Whole) (given : Givens) → Has given c.signature.imports → AreExportsOf c.signature.exports (link plan (begun whole given)).exports

-- each plan is of its component
abbrev pub ScopeIs : (Plan → NestedComponent → Type 0) → Scope → Space → Type 0
ScopeIs R scope s = Both R scope.components s.components

abbrev ScopeFits : Scope → Space → Type 0
ScopeFits scope s = ScopeIs IsPlanOf scope s

-- no export is declared outside an instance type
abbrev pub Defines : Definition → Type 0
Defines (AType d) = IsDefined d
Defines _ = Unit {0}

abbrev pub DefineAll : List Definition → Type 0
DefineAll [] = Unit {0}
DefineAll (d ∷ ds) = Defines d × DefineAll ds

pub define_map : {A : Type 0} → (f : A → Definition) → ((a : A) → Defines (f a)) → (items : List A) → DefineAll (map f items)
define_map f each [] = tt
define_map f each (a ∷ items) = (each a, define_map f each items)

pub define_types : (ds : Declarations) → AreDefined ds → DefineAll (types_in ds)
define_types Done h = tt
define_types (ThenDeclared d ds) h = (h.0, define_types ds h.1)

module _ (imports : Entries) where
  -- ---- core instances, types and canonical functions

  core_instance_fits : (scope : Scope) (i : CoreInstance) (m : Making) (s : Space) → Fits imports m s → Fits imports (link (of_core_instance scope i) m) s
  core_instance_fits scope (core_instances.Instantiate k args) m s h = go (slice_get scope.modules k)
    where
      go : (o : Option Module) → Fits imports (link (if_some (λ module'. OfModule module' args) o) m) s
      go None = h
      go (Some module') = h
  core_instance_fits scope (core_instances.Inline exports) m s h = h

  type_def_fits : (around : List Space) (d : TypeDef) (m : Making) (s : Space) → Fits imports m s → Fits imports (link (of_type s (ATypeDef d)) m) (after around s (AType (ATypeDef d)))
  type_def_fits around (defs.Primitive p) m s h = h
  type_def_fits around (defs.Record fields) m s h = h
  type_def_fits around (defs.Variant cases) m s h = h
  type_def_fits around (defs.List item) m s h = h
  type_def_fits around (defs.Tuple types) m s h = h
  type_def_fits around (defs.Flags labels) m s h = h
  type_def_fits around (defs.Enum labels) m s h = h
  type_def_fits around (defs.Option item) m s h = h
  type_def_fits around (defs.Result ok err) m s h = h
  type_def_fits around (defs.Own i) m s h = h
  type_def_fits around (defs.Borrow i) m s h = h
  type_def_fits around (defs.Func params result) m s h = h
  type_def_fits around (defs.Instance declarations) m s h = h
  type_def_fits around (defs.Resource destructor) m s h = h

  some_type_fits : (o : Option TypeEntry) (m : Making) (s : Space) → Fits imports m s → Fits imports m (and_some_type s o)
  some_type_fits None m s h = h
  some_type_fits (Some entry) m s h = h

  -- an alias of a type
  type_alias_fits : (name : Name) (o : Option Entries) (m : Making) (s : Space) → if_there (exports_sort sorts.Type name) o ≡ true → Fits imports m s → Fits imports m (and_some_item s (option_and_then (look_up name) o))
  type_alias_fits name None m s names h = h
  type_alias_fits name (Some entries) m s names h = go (look_up name entries) names
    where
      go : (o : Option Item) → has_item (is_of_sort sorts.Type) o ≡ true → Fits imports m (and_some_item s o)
      go None never = h
      go (Some (FuncItem ty)) never = absurd (false≢true never)
      go (Some (InstanceItem items)) never = absurd (false≢true never)
      go (Some (KindItem kind)) is = h

  outer_type_fits : (o : Option Space) (index : ℕ) (m : Making) (s : Space) → Fits imports m s → Fits imports m (and_outer s outer_sorts.Type o index)
  outer_type_fits None index m s h = h
  outer_type_fits (Some scope) index m s h = some_type_fits (slice_get scope.types index) m s h

  declared_fits : (around : List Space) (d : Declaration) (m : Making) (s : Space) → IsValidDefinition around s (AType d) → IsDefined d → Fits imports m s → Fits imports (link (of_type s d) m) (after around s (AType d))
  declared_fits around (ATypeDef d) m s v defined h = type_def_fits around d m s h
  declared_fits around (AnInstanceType ds) m s v defined h = h
  declared_fits around (ATypeAlias (type_aliases.Export i name)) m s v defined h = type_alias_fits name (slice_get s.instances i) m s ((v 7).aliases refl) h
  declared_fits around (ATypeAlias (type_aliases.Outer count index)) m s v defined h = outer_type_fits (slice_get (s ∷ around) count) index m s h
  declared_fits around (ATypeExport name desc) m s v defined h = absurd defined

  canon_fits : (around : List Space) (c : Canon) (m : Making) (s : Space) → Fits imports m s → Fits imports (link (of_canon s c) m) (after around s (ACanon c))
  canon_fits around (canons.Lift func options ty) m s h = record { given = h.given; functions = both_and IsFunc m.functions s.functions _ _ h.functions (_, refl, passing_with (partner_in m.resources) (func_in (kind_at s ty))); instances = h.instances; exports = h.exports }
  canon_fits around (canons.Lower func options) m s h = lowered_fits imports m s _ options (option_and_then (λ o. o) (slice_get m.functions func)) h
  canon_fits around (canons.ResourceNew ty) m s h = go (resource_in (kind_at s ty))
    where
      go : (o : Option ℕ) → Fits imports (link (if_some MakesResource o) m) s
      go None = h
      go (Some r) = h
  canon_fits around (canons.ResourceDrop ty) m s h = go (resource_in (kind_at s ty))
    where
      go : (o : Option ℕ) → Fits imports (link (if_some DropsResource o) m) s
      go None = h
      go (Some r) = h
  canon_fits around (canons.ResourceRep ty) m s h = go (resource_in (kind_at s ty))
    where
      go : (o : Option ℕ) → Fits imports (link (if_some ReadsResource o) m) s
      go None = h
      go (Some r) = h

  -- ---- aliases

  alias_fits : (sort : Sort) (i : ℕ) (name : Name) (m : Making) (s : Space) → if_there (exports_sort sort name) (slice_get s.instances i) ≡ true → Fits imports m s
      → Fits imports (and_made m (item_in (slice_get m.instances i) name)) (and_some_item s (option_and_then (look_up name) (slice_get s.instances i)))
  alias_fits sort i name m s names h = go (slice_get s.instances i) refl names
    where
      at_item : (items : Givens) (entries : Entries) → Has items entries → (o : Option Item) → look_up name entries ≡ o → has_item (is_of_sort sort) o ≡ true → Fits imports (and_made m (find name items)) (and_some_item s o)
      at_item items entries has None e never = absurd (false≢true never)
      at_item items entries has (Some item) e is =
          let f = found items name item (has name item e) in
          subst (λ z. Fits imports (and_made m z) (and_some_item s (Some item))) (sym f.there) (item_fits imports m s f.given item h f.fits)

      go : (o : Option Entries) → slice_get s.instances i ≡ o → if_there (exports_sort sort name) o ≡ true → Fits imports (and_made m (item_in (slice_get m.instances i) name)) (and_some_item s (option_and_then (look_up name) o))
      go None e is = subst (λ z. Fits imports (and_made m (item_in z name)) s) (sym (both_none Has m.instances s.instances i h.instances e)) h
      go (Some entries) e is =
          let x = both_get Has m.instances s.instances i entries h.instances e in
          subst (λ z. Fits imports (and_made m (item_in z name)) (and_some_item s (look_up name entries))) (sym x.1) (at_item x.0 entries x.2 (look_up name entries) refl is)

  core_item_fits : (o : Option CoreItem) (m : Making) (s : Space) → Fits imports m s → Fits imports m (and_some_core_item s o)
  core_item_fits None m s h = h
  core_item_fits (Some (core_items.Func ty)) m s h = h
  core_item_fits (Some (core_items.Table ty limits)) m s h = h
  core_item_fits (Some (core_items.Memory limits)) m s h = h
  core_item_fits (Some (core_items.Global ty variable)) m s h = h

  module_fits : (o : Option ModuleType) (m : Making) (s : Space) → Fits imports m s → Fits imports m (and_some_module s o)
  module_fits None m s h = h
  module_fits (Some t) m s h = h

  component_fits : (o : Option NestedComponent) (m : Making) (s : Space) → Fits imports m s → Fits imports m (and_some_component s o)
  component_fits None m s h = h
  component_fits (Some c) m s h = h

  outer_fits : (sort : OuterSort) (o : Option Space) (index : ℕ) (m : Making) (s : Space) → Fits imports m s → Fits imports m (and_outer s sort o index)
  outer_fits sort None index m s h = h
  outer_fits outer_sorts.Type (Some scope) index m s h = some_type_fits (slice_get scope.types index) m s h
  outer_fits outer_sorts.CoreModule (Some scope) index m s h = module_fits (slice_get scope.core_modules index) m s h
  outer_fits outer_sorts.Component (Some scope) index m s h = component_fits (slice_get scope.components index) m s h

  aliased_fits : (around : List Space) (a : Alias) (m : Making) (s : Space) → AllHold around s (AnAlias a) → Fits imports m s → Fits imports (link (of_alias a) m) (after around s (AnAlias a))
  aliased_fits around (aliases.Export sort i name) m s v h = alias_fits sort i name m s ((v 7).aliases refl) h
  aliased_fits around (aliases.CoreExport sort i name) m s v h =
      core_item_fits (option_and_then (core_look_up name) (slice_get s.core_instances i)) (link (of_alias (aliases.CoreExport sort i name)) m) s
      (core_fits imports m s (option_and_then (core_find name) (slice_get m.core_instances i)) h)
  aliased_fits around (aliases.Outer sort count index) m s v h = outer_fits sort (slice_get (s ∷ around) count) index m s h

  -- ---- instances

  instantiated_fits : (plan : Plan) (c : NestedComponent) (own : List (ℕ × ℕ)) (args : List NamedItem) (m : Making) (s : Space) → IsPlanOf plan c → MeetsComponent (named_items s args) (Some c)
      → AreExportsOf (named_items s args) (givens_of m (named_args s args)) → Fits imports m s → Fits imports (link_item (OfComponent plan own (named_args s args)) m) (and_instantiated s (Some c) (named_items s args))
  instantiated_fits plan c own args m s is meets named h =
      let given : Givens = givens_of m (named_args s args) in
      let whole : Whole = and_stage m.whole Begins in
      let items : Givens = (link plan (begun whole given)).exports in
      let has : Has given c.signature.imports = has_given (λ x y. x ≡ meets.0 y) given (named_items s args) c.signature.imports meets.1 (has_exports given (named_items s args) named) in
      let out : Has items c.signature.exports = has_exports items c.signature.exports (is whole given has) in
      record {
        given = h.given;
        functions = h.functions;
        instances = both_and Has m.instances s.instances items _ h.instances (has_with (partner_in (given_by (named_items s args) c.signature.imports ++ numbered c.own s.next)) items c.signature.exports out);
        exports = h.exports;
      }

  instance_fits : (around : List Space) (scope : Scope) (i : Instance) (m : Making) (s : Space) → ScopeFits scope s → AllHold around s (AnInstance i) → Fits imports m s → Fits imports (link (of_instance scope s i) m) (and_instance s i)
  instance_fits around scope (instances.Instantiate k args) m s plans v h =
      let stand = and_parts (nat_lt k (length s.components)) (list_all (λ a. item_stands (lengths_of s) a.sort a.index) args) ((v 3).indexes refl) in
      let c = get_there s.components k stand.0 in
      let plan = both_get IsPlanOf scope.components s.components k c.0 plans c.1 in
      let meets : MeetsComponent (named_items s args) (Some c.0) = subst (MeetsComponent (named_items s args)) c.1 ((v 23).arguments refl).1 in
      subst (λ z. Fits imports (link (if_some (λ p. OfComponent p (own_numbers s (slice_get s.components k)) (named_args s args)) z) m) (and_instantiated s (slice_get s.components k) (named_items s args))) (sym plan.1)
      (subst (λ z. Fits imports (link (just (OfComponent plan.0 (own_numbers s (slice_get s.components k)) (named_args s args))) m) (and_instantiated s z (named_items s args))) (sym c.1)
      (instantiated_fits plan.0 c.0 (own_numbers s (slice_get s.components k)) args m s plan.2 meets (named_fit imports m s args h stand.1) h))
  instance_fits around scope (instances.Inline exports) m s plans v h = record {
    given = h.given;
    functions = h.functions;
    instances = both_and Has m.instances s.instances (givens_of m (named_args s exports)) (named_items s exports) h.instances (has_exports (givens_of m (named_args s exports)) (named_items s exports) (named_fit imports m s exports h ((v 3).indexes refl)));
    exports = h.exports;
  }

  -- ---- imports and exports

  import_fits : (around : List Space) (i : ComponentImport) (m : Making) (s : Space) → AllHold around s (AnImport i) → Within (after around s (AnImport i)).imports imports → Fits imports m s
      → Fits imports (link (just (Imports i.name (described s i.desc))) m) (after around s (AnImport i))
  import_fits around i m s v within h =
      let item : Item = described s i.desc in
      let f = found m.given i.name item (h.given i.name item (within i.name item (found_new s.imports i.name item ((v 19).import_names refl)))) in
      subst (λ z. Fits imports (and_made m z) (and_index s i.desc)) (sym f.there) (index_fits imports m s f.given i.desc h ((v 3).indexes refl) f.fits)

  again_fits : (m : Making) (s : Space) (sort : Sort) (i : ℕ) (g : Given) (item : Item) → Fits imports m s → item_at s sort i ≡ Some item → IsOf g item → Fits imports (and_made m (Some g)) (and_again s sort i)
  again_fits m s sorts.Func i g item h is fits = subst (λ z. Fits imports (and_made m (Some g)) (and_some_item s z)) (sym is) (item_fits imports m s g item h fits)
  again_fits m s sorts.Instance i g item h is fits = subst (λ z. Fits imports (and_made m (Some g)) (and_some_item s z)) (sym is) (item_fits imports m s g item h fits)
  again_fits m s sorts.Type i g item h is fits = go (slice_get s.types i) is
    where
      go : (o : Option TypeEntry) → option_map KindItem (option_map (λ (e : TypeEntry). e.kind) o) ≡ Some item → Fits imports (and_made m (Some g)) (and_some_type s o)
      go None never = absurd (let q : None ≡ Some item = never in cc)
      go (Some entry) there = item_fits imports m s g (KindItem entry.kind) h (subst (IsOf g) (sym (some_same (KindItem entry.kind) item there)) fits)

  -- what is exported, and its index
  record Exporting (m : Making) (s : Space) (e : ComponentExport) (g : Given) : Type 0 where
    item : Item
    is : exported s e ≡ Some item
    fits : IsOf g item
    index : Fits imports (and_made m (Some g)) (and_export_index s e e.desc)

  exporting : (name : Name) (sort : Sort) (i : ℕ) (desc : Option ExternDesc) (m : Making) (s : Space) (item : Item) (g : Given) → item_at s sort i ≡ Some item → IsOf g item
      → if_there (desc_stands (lengths_of s)) desc ≡ true → IsStatedIfAny s (item_at s sort i) desc → Fits imports m s → Exporting m s (record { name = name; sort = sort; index = i; desc = desc }) g
  exporting name sort i None m s item g is fits stands stated h = record { item = item; is = is; fits = fits; index = again_fits m s sort i g item h is fits }
  exporting name sort i (Some desc) m s item g is fits stands stated h =
      let now : IsOf g (described s desc) = stated_fits s g item desc stands fits (subst (λ z. IsStated s z desc) is stated) in
      record { item = described s desc; is = refl; fits = now; index = index_fits imports m s g desc h stands now }

  export_fits : (around : List Space) (e : ComponentExport) (m : Making) (s : Space) → AllHold around s (AnExport e) → Fits imports m s
      → Fits imports (link (just (Exports e.name (named_by s e.sort e.index) (option_map (described s) e.desc))) m) (after around s (AnExport e))
  export_fits around e m s v h =
      let stand = and_parts (item_stands (lengths_of s) e.sort e.index) (if_there (desc_stands (lengths_of s)) e.desc) ((v 3).indexes refl) in
      let item = item_there s e.sort e.index stand.0 in
      let g = given_there imports m s e.sort e.index item.0 h item.1 in
      let x : Exporting m s e g.0 = exporting e.name e.sort e.index e.desc m s item.0 g.0 item.1 g.2 stand.1 ((v 22).stated_types refl) h in
      subst (λ z. Fits imports (and_export m e.name z (option_map (described s) e.desc)) (after around s (AnExport e))) (sym g.1)
      (record {
        given = x.index.given;
        functions = x.index.functions;
        instances = x.index.instances;
        exports = subst (λ z. AreExportsOf (and_some_entry s.exports e.name z) (and_given m.exports e.name g.0)) (sym x.is) (exports_and m.exports s.exports e.name g.0 x.item h.exports x.fits);
      })

  -- ---- each definition

  pub defined_fits : (around : List Space) (scope : Scope) (d : Definition) (m : Making) (s : Space) → ScopeFits scope s → IsValidDefinition around s d → Defines d → Within (after around s d).imports imports → Fits imports m s
      → Fits imports (link (planned_by scope s d) m) (after around s d)
  defined_fits around scope (ACoreInstance i) m s plans v defines within h = core_instance_fits scope i m s h
  defined_fits around scope (AnInstance i) m s plans v defines within h = instance_fits around scope i m s plans v h
  defined_fits around scope (AnAlias a) m s plans v defines within h = aliased_fits around a m s v h
  defined_fits around scope (AType d) m s plans v defines within h = declared_fits around d m s v defines h
  defined_fits around scope (ACanon c) m s plans v defines within h = canon_fits around c m s h
  defined_fits around scope (AnImport i) m s plans v defines within h = import_fits around i m s v within h
  defined_fits around scope (AnExport e) m s plans v defines within h = export_fits around e m s v h

-- ---- the scope after a definition

pub module_scope : (scope : Scope) (o : Option Module) → (and_module scope o).components ≡ scope.components
module_scope scope None = refl
module_scope scope (Some k) = refl

module _ (R : Plan → NestedComponent → Type 0) where
  abbrev OuterIs : Option Scope → Option Space → Type 0
  OuterIs None None = Unit {0}
  OuterIs (Some scope) (Some s) = ScopeIs R scope s
  OuterIs _ _ = ⊥

  outer_there : (scopes : List Scope) (spaces : List Space) (i : ℕ) → Both (ScopeIs R) scopes spaces → OuterIs (slice_get scopes i) (slice_get spaces i)
  outer_there [] [] i h = tt
  outer_there (o ∷ scopes) (s ∷ spaces) zero h = h.0
  outer_there (o ∷ scopes) (s ∷ spaces) (suc i) h = outer_there scopes spaces i h.1
  outer_there [] (s ∷ spaces) i h = absurd h
  outer_there (o ∷ scopes) [] i h = absurd h

  outer_scope : (scope : Scope) (s : Space) (sort : OuterSort) (index : ℕ) (o : Option Scope) (t : Option Space) → ScopeIs R scope s → OuterIs o t → ScopeIs R (scope_and_outer scope sort o index) (and_outer s sort t index)
  outer_scope scope s outer_sorts.CoreModule index None None h f = h
  outer_scope scope s outer_sorts.Component index None None h f = h
  outer_scope scope s outer_sorts.Type index o t h f = subst (Both R scope.components) (sym (with_outer_type s t index).1) h
  outer_scope scope s outer_sorts.CoreModule index (Some o) (Some t) h f =
      subst (Both R (and_module scope (slice_get o.modules index)).components) (sym (with_outer_module s (Some t) index).1) (subst (λ z. Both R z s.components) (sym (module_scope scope (slice_get o.modules index))) h)
  outer_scope scope s outer_sorts.Component index (Some o) (Some t) h f = go (slice_get t.components index) refl
    where
      go : (c : Option NestedComponent) → slice_get t.components index ≡ c → ScopeIs R (and_plan scope (slice_get o.components index)) (and_some_component s c)
      go None e = subst (λ z. ScopeIs R (and_plan scope z) s) (sym (both_none R o.components t.components index f e)) h
      go (Some c) e =
          let plan = both_get R o.components t.components index c f e in
          subst (λ z. ScopeIs R (and_plan scope z) (and_some_component s (Some c))) (sym plan.1) (both_and R scope.components s.components plan.0 c h plan.2)
  outer_scope scope s sort index None (Some t) h f = absurd f
  outer_scope scope s sort index (Some o) None h f = absurd f

  pub scope_stays : (around : List Space) (outside' : List Scope) (scope : Scope) (s : Space) (d : Definition) → Both (ScopeIs R) outside' around → ScopeIs R scope s → ScopeIs R (scope_after outside' scope d) (after around s d)
  scope_stays around outside' scope s (AnAlias (aliases.Outer sort count index)) scopes h = outer_scope scope s sort index (slice_get (scope ∷ outside') count) (slice_get (s ∷ around) count) h (outer_there (scope ∷ outside') (s ∷ around) count (h, scopes))
  scope_stays around outside' scope s (AnAlias (aliases.Export sort i name)) scopes h = subst (Both R scope.components) (sym (with_alias around s sort i name).1) h
  scope_stays around outside' scope s (AnAlias (aliases.CoreExport sort i name)) scopes h = subst (Both R scope.components) (sym (with_core_alias around s sort i name).1) h
  scope_stays around outside' scope s (ACoreInstance i) scopes h = h
  scope_stays around outside' scope s (AnInstance i) scopes h = subst (Both R scope.components) (sym (with_instance around s i).1) h
  scope_stays around outside' scope s (AType d) scopes h = subst (Both R scope.components) (sym (with_declaration around s d).1) h
  scope_stays around outside' scope s (ACanon c) scopes h = subst (Both R scope.components) (sym (with_canon around s c).1) h
  scope_stays around outside' scope s (AnImport i) scopes h = subst (Both R scope.components) (sym (with_index s i.desc).1) h
  scope_stays around outside' scope s (AnExport e) scopes h = subst (Both R scope.components) (sym (with_export s e e.desc).1) h

-- ---- whole components

-- a plan made so far, and the scope after it
record Reaches (imports : Entries) (plan : Plan) (m : Making) (behind : Scope) (s : Space) : Type 0 where
  made : Fits imports (link plan m) s
  scope : ScopeFits behind s

module _ (around : List Space) (outside' : List Scope) (scopes : Both ScopeFits outside' around) (imports : Entries) where
  all_made : (ds : List Definition) (scope : Scope) (m : Making) (s : Space) → AreValid around s ds → DefineAll ds → Within (after_all around s ds).imports imports → ScopeFits scope s → Fits imports m s
      → Reaches imports (plan_all around outside' s scope ds).plan m (plan_all around outside' s scope ds).scope (after_all around s ds)
  all_made [] scope m s v defines within f h = record { made = h; scope = f }
  all_made (d ∷ ds) scope m s v defines within f h =
      let before : Within (after around s d).imports imports = then_within (after around s d).imports (after_all around (after around s d) ds).imports imports (all_within around (after around s d) ds) within in
      let one = defined_fits imports around scope d m s f v.0 defines.0 before h in
      let rest = all_made ds (scope_after outside' scope d) (link (planned_by scope s d) m) (after around s d) v.1 defines.1 within (scope_stays IsPlanOf around outside' scope s d scopes f) one in
      record { made = subst (λ z. Fits imports z (after_all around s (d ∷ ds))) (sym (link_followed (planned_by scope s d) (plan_all around outside' (after around s d) (scope_after outside' scope d) ds).plan m)) rest.made; scope = rest.scope }

mutual
  part_made : (around : List Space) (outside' : List Scope) → Both ScopeFits outside' around → (imports : Entries) (part : Part) (scope : Scope) (m : Making) (s : Space) → IsValidPart around s part → DefinesIn part
      → Within (after_part around s part).imports imports → ScopeFits scope s → Fits imports m s → Reaches imports (plan_part around outside' s scope part).plan m (plan_part around outside' s scope part).scope (after_part around s part)
  part_made around outside' scopes imports (CoreModule span k) scope m s v defines within f h = record { made = h; scope = subst (λ z. Both IsPlanOf z s.components) (sym (module_scope scope (Some k))) f }
  part_made around outside' scopes imports (Nested span tree) scope m s v defines within f h =
      let inner : Space = after_tree (s ∷ around) (entered s) tree in
      let plan : Plan = plan_tree (s ∷ around) (scope ∷ outside') (entered s) no_scope tree in
      let is : IsPlanOf plan (nested_of inner) = λ whole given has.
      (tree_made (s ∷ around) (scope ∷ outside') (f, scopes) inner.imports tree no_scope (begun whole given) (entered s) v defines (λ name item e. e) tt (record { given = has; functions = tt; instances = tt; exports = tt })).exports in
      record { made = h; scope = both_and IsPlanOf scope.components s.components plan (nested_of inner) f is }
  part_made around outside' scopes imports (CoreInstances items) scope m s v defines within f h = all_made around outside' scopes imports (definitions (CoreInstances items)) scope m s v (define_map ACoreInstance (λ a. tt) items) within f h
  part_made around outside' scopes imports (Instances items) scope m s v defines within f h = all_made around outside' scopes imports (definitions (Instances items)) scope m s v (define_map AnInstance (λ a. tt) items) within f h
  part_made around outside' scopes imports (Aliases items) scope m s v defines within f h = all_made around outside' scopes imports (definitions (Aliases items)) scope m s v (define_map AnAlias (λ a. tt) items) within f h
  part_made around outside' scopes imports (Types items) scope m s v defines within f h = all_made around outside' scopes imports (definitions (Types items)) scope m s v (define_types (grouped items) defines) within f h
  part_made around outside' scopes imports (Canons items) scope m s v defines within f h = all_made around outside' scopes imports (definitions (Canons items)) scope m s v (define_map ACanon (λ a. tt) items) within f h
  part_made around outside' scopes imports (ImportsPart items) scope m s v defines within f h = all_made around outside' scopes imports (definitions (ImportsPart items)) scope m s v (define_map AnImport (λ a. tt) items) within f h
  part_made around outside' scopes imports (ExportsPart items) scope m s v defines within f h = all_made around outside' scopes imports (definitions (ExportsPart items)) scope m s v (define_map AnExport (λ a. tt) items) within f h
  part_made around outside' scopes imports (Custom span) scope m s v defines within f h = record { made = h; scope = f }

  -- What a valid component makes of what it is given has at each index what its index spaces say.
  pub tree_made : (around : List Space) (outside' : List Scope) → Both ScopeFits outside' around → (imports : Entries) (tree : Tree) (scope : Scope) (m : Making) (s : Space) → IsValidTree around s tree → DefinesTypes tree
      → Within (after_tree around s tree).imports imports → ScopeFits scope s → Fits imports m s → Fits imports (link (plan_tree around outside' s scope tree) m) (after_tree around s tree)
  tree_made around outside' scopes imports NoParts scope m s v defines within f h = h
  tree_made around outside' scopes imports (Section part rest) scope m s v defines within f h =
      let before : Within (after_part around s part).imports imports = then_within (after_part around s part).imports (after_tree around (after_part around s part) rest).imports imports (tree_within around (after_part around s part) rest) within in
      let one = part_made around outside' scopes imports part scope m s v.0 defines.0 before f h in
      let reached = plan_part around outside' s scope part in
      subst (λ z. Fits imports z (after_tree around s (Section part rest))) (sym (link_followed reached.plan (plan_tree around outside' (after_part around s part) reached.scope rest) m))
      (tree_made around outside' scopes imports rest reached.scope (link reached.plan m) (after_part around s part) v.1 defines.1 within one.scope one.made)

-- ---- the outermost component is given its imports

at_outside : (b : Bool) (interface n : Name) (i : Item) (rest : Entries) (name : Name) (item : Item) → IsOf (outside interface n i) i → (look_up name rest ≡ Some item → Finds (all_outside interface rest) name item)
    → cond b (Some i) (look_up name rest) ≡ Some item → Either b (IsOf (outside interface n i) item) (Finds (all_outside interface rest) name item)
at_outside true interface n i rest name item here later is = subst (IsOf (outside interface n i)) (some_same i item is) here
at_outside false interface n i rest name item here later is = later is

mutual
  outside_is : (interface name : Name) (item : Item) → IsOf (outside interface name item) item
  outside_is interface name (FuncItem ty) = refl
  outside_is interface name (InstanceItem entries) = outside_has name entries
  outside_is interface name (KindItem (ResourceKind r)) = refl
  outside_is interface name (KindItem (ValueKind ty)) = refl
  outside_is interface name (KindItem (FuncKind ty)) = refl
  outside_is interface name (KindItem (InstanceKind own entries)) = refl

  pub outside_has : (interface : Name) (entries : Entries) → Has (all_outside interface entries) entries
  outside_has interface NoEntries name item is = absurd (let q : None ≡ Some item = is in cc)
  outside_has interface (Entry n i rest) name item is = at_outside (same_name n name) interface n i rest name item (outside_is interface n i) (outside_has interface rest name item) is

pub exports_linked : ExportsAreLinked
exports_linked c valid defines =
    let imports : Entries = (after_tree [] root c).imports in
    let first : Making = begun (record { next_instance = 0; next_resource = behind_known (all_known [] imports); stages = []; canons = []; owners = [] }) (all_outside [] imports) in
    (tree_made [] [] tt imports c no_scope first root valid defines (λ name item e. e) tt (record { given = outside_has [] imports; functions = tt; instances = tt; exports = tt })).exports
