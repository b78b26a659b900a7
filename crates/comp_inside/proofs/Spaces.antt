-- The index spaces of a component, where resources have later numbers.
use Rattle.std.proofs.Common.{◌≡◌, ℕ, ◌+◌, ◌<◌, List, [], ◌∷◌, ◌++◌, map, length, Option, Some, None, refl, sym, ◌∙◌, ap, subst, arith}
use Rattle.std.specs.Prelude.{slice_get}
use Rattle.std.specs.Option.{option_map, option_and_then}
use Rattle.std.proofs.Math.Path.{ap₂}
use Rattle.std.proofs.lemmas.List.{map-append, length-map}
use Rattle.std.proofs.lemmas.Option.{slice_get-map}
use Rattle.wasm_ast.specs.declared.component.CoreInstance.{CoreInstance}
use Rattle.wasm_ast.specs.declared.component.CoreInstance.TheVariants as core_instances
use Rattle.wasm_ast.specs.declared.component.CoreExport.{CoreExport as CoreNamed}
use Rattle.wasm_ast.specs.declared.component.CoreSort.{CoreSort}
use Rattle.wasm_ast.specs.declared.component.CoreSort.TheVariants as core_sorts
use Rattle.wasm_ast.specs.declared.component.Sort.{Sort}
use Rattle.wasm_ast.specs.declared.component.Sort.TheVariants as sorts
use Rattle.wasm_ast.specs.declared.component.NamedItem.{NamedItem}
use Rattle.wasm_ast.specs.declared.component.Instance.{Instance}
use Rattle.wasm_ast.specs.declared.component.Instance.TheVariants as instances
use Rattle.wasm_ast.specs.declared.component.OuterSort.{OuterSort}
use Rattle.wasm_ast.specs.declared.component.OuterSort.TheVariants as outer_sorts
use Rattle.wasm_ast.specs.declared.component.Alias.{Alias}
use Rattle.wasm_ast.specs.declared.component.Alias.TheVariants as aliases
use Rattle.wasm_ast.specs.declared.component.TypeAlias.{TypeAlias}
use Rattle.wasm_ast.specs.declared.component.TypeAlias.TheVariants as type_aliases
use Rattle.wasm_ast.specs.declared.component.ExternDesc.{ExternDesc}
use Rattle.wasm_ast.specs.declared.component.ExternDesc.TheVariants as descs
use Rattle.wasm_ast.specs.declared.component.TypeDef.{TypeDef}
use Rattle.wasm_ast.specs.declared.component.TypeDef.TheVariants as defs
use Rattle.wasm_ast.specs.declared.component.Canon.{Canon}
use Rattle.wasm_ast.specs.declared.component.Canon.TheVariants as canons
use Rattle.wasm_ast.specs.declared.component.ComponentImport.{ComponentImport}
use Rattle.wasm_ast.specs.declared.component.ComponentExport.{ComponentExport}
use Rattle.wasm_ast.specs.declared.component.ValType.{ValType}
use Rattle.wasm_ast.specs.declared.component.ValType.TheVariants as values
use Rattle.wasm_ast.specs.declared.component.LabelType.{LabelType}
use Rattle.wasm_ast.specs.declared.component.CaseType.{CaseType}
use Rattle.core_validate.specs.declared.item.CoreItem.{CoreItem}
use Rattle.core_validate.specs.declared.item.CoreItem.TheVariants as core_items
use Rattle.core_validate.specs.declared.item.ModuleType.{ModuleType}
use Rattle.wit_types.specs.Plain.{Name, PlainFunc, AsRecord, AsTuple, AsVariant, AsEnum, AsOption, AsResult, RecordType, VariantType, ListType, OwnType, BorrowType, End as NoParts, More as Part, Bare, case_part}
use Rattle.comp_types.specs.Items.{Item, Kind, Entries, FuncItem, InstanceItem, KindItem, ResourceKind, ValueKind, FuncKind, InstanceKind, End, look_up, and_entry}
use Rattle.comp_types.specs.Substitution.{value_with, parts_with, answer_with, func_with, item_with, kind_with, entries_with}
use Rattle.comp_types.proofs.WithLemmas.{with-bare, with-case_part}
use Rattle.comp_grammar.specs.Trees.{Part as Section, Tree, CoreModule, Nested, CoreInstances, Instances, Aliases, Types, Canons, Imports, Exports, Custom, End as NoSections, More as Sections}
use Rattle.comp_types.specs.Declarations.{Declaration, Declarations, ATypeDef, AnInstanceType, ATypeAlias, ATypeExport, Done, Then}
use Rattle.comp_types.specs.Definitions.{Definition, ACoreInstance, AnInstance, AnAlias, AType, ACanon, AnImport, AnExport, definitions}
use Rattle.comp_types.specs.Spaces.{Space, TypeEntry, NestedComponent, core_space, kind_at, item_at, and_core_item, and_type, entry_of, and_item}
use Rattle.comp_types.specs.Types.{value_in, func_in, resource_in, instance_in, value_of, fields_of, cases_of, unnamed, handle_of, func_of, kind_of}
use Rattle.comp_types.specs.Flat.{core_type}
use Rattle.comp_types.specs.GivenResources.{without, named_in, distinct, numbered, renamed, given_by}
use Rattle.comp_types.specs.CoreMatching.{core_look_up}
use Rattle.comp_types.specs.Added.{and_core_named, core_named, core_exports, and_named, named_items, and_instantiated, and_instance, and_some_item, and_some_core_item, and_some_type, and_some_module, and_component, and_some_component, and_outer, and_alias, brought, kind_item, described, depth_in, described_depth, and_index, and_described, new_numbers, and_resource, and_type_def, and_depth, opened, instance_type, and_instance_type, and_type_alias, and_type_export, after_declaration, after_declarations, lowered_at, and_canon, and_import, and_again, and_some_entry, and_export, after, after_all, entered, nested_of, and_nested, after_part, after_tree}
use Rattle.comp_inside.proofs.Types.{lowered_with}
use Rattle.comp_inside.specs.Later.{later, pair_later, entry_later, nested_later, space_later, Declares, DeclareAll, Defines, DefineAll, Stays, StaysWhole}
use Rattle.comp_inside.proofs.Numbers.{got_within, without_later, distinct_later, next_later, numbered_later, lengths_later}
use Rattle.comp_inside.proofs.Items.{renamed_later, primitive_later, kind_depth_later, entries_named, look_up_later, and_entry_later, given_later}

-- one scope more
pub one_more : (own : List Space) (s : Space) (tree : Tree) → StaysWhole (length own + 1 + 1) tree → StaysWhole (length (s ∷ own) + 1) tree
one_more own s tree stays = subst (λ n. StaysWhole n tree) (omega arith) stays

one_more_declared : (own : List Space) (s : Space) (ds : Declarations) → DeclareAll (length own + 1 + 1) ds → DeclareAll (length (s ∷ own) + 1) ds
one_more_declared own s ds stays = subst (λ n. DeclareAll n ds) (omega arith) stays

module _ (k : ℕ) where
  -- ---- what an index names

  pub kind_at_later : (s : Space) (i : ℕ) → kind_at (space_later k s) i ≡ option_map (kind_with (later k)) (kind_at s i)
  kind_at_later s i = ap (option_map (λ (e : TypeEntry). e.kind)) (slice_get-map (entry_later k) s.types i) ∙ go (slice_get s.types i)
    where
      go : (o : Option TypeEntry) → option_map (λ (e : TypeEntry). e.kind) (option_map (entry_later k) o) ≡ option_map (kind_with (later k)) (option_map (λ (e : TypeEntry). e.kind) o)
      go None = refl
      go (Some e) = refl

  value_in_later : (o : Option Kind) → value_in (option_map (kind_with (later k)) o) ≡ value_with (later k) (value_in o)
  value_in_later None = refl
  value_in_later (Some (ResourceKind r)) = refl
  value_in_later (Some (ValueKind ty)) = refl
  value_in_later (Some (FuncKind ty)) = refl
  value_in_later (Some (InstanceKind own entries)) = refl

  pub func_in_later : (o : Option Kind) → func_in (option_map (kind_with (later k)) o) ≡ func_with (later k) (func_in o)
  func_in_later None = refl
  func_in_later (Some (ResourceKind r)) = refl
  func_in_later (Some (ValueKind ty)) = refl
  func_in_later (Some (FuncKind ty)) = refl
  func_in_later (Some (InstanceKind own entries)) = refl

  pub resource_in_later : (o : Option Kind) → resource_in (option_map (kind_with (later k)) o) ≡ option_map (later k) (resource_in o)
  resource_in_later None = refl
  resource_in_later (Some (ResourceKind r)) = refl
  resource_in_later (Some (ValueKind ty)) = refl
  resource_in_later (Some (FuncKind ty)) = refl
  resource_in_later (Some (InstanceKind own entries)) = refl

  own_in_later : (o : Option Kind) → (instance_in (option_map (kind_with (later k)) o)).0 ≡ map (later k) (instance_in o).0
  own_in_later None = refl
  own_in_later (Some (ResourceKind r)) = refl
  own_in_later (Some (ValueKind ty)) = refl
  own_in_later (Some (FuncKind ty)) = refl
  own_in_later (Some (InstanceKind own entries)) = refl

  entries_in_later : (o : Option Kind) → (instance_in (option_map (kind_with (later k)) o)).1 ≡ entries_with (later k) (instance_in o).1
  entries_in_later None = refl
  entries_in_later (Some (ResourceKind r)) = refl
  entries_in_later (Some (ValueKind ty)) = refl
  entries_in_later (Some (FuncKind ty)) = refl
  entries_in_later (Some (InstanceKind own entries)) = refl

  -- ---- types

  value_later : (s : Space) (v : ValType) → value_of (space_later k s) v ≡ value_with (later k) (value_of s v)
  value_later s (values.Primitive p) = sym (primitive_later k p)
  value_later s (values.Index i) = ap value_in (kind_at_later s i) ∙ value_in_later (kind_at s i)

  some_value_later : (s : Space) (o : Option ValType) → option_map (value_of (space_later k s)) o ≡ answer_with (later k) (option_map (value_of s) o)
  some_value_later s None = refl
  some_value_later s (Some v) = ap Some (value_later s v)

  fields_later : (s : Space) (fs : List LabelType) → fields_of (space_later k s) fs ≡ parts_with (later k) (fields_of s fs)
  fields_later s [] = refl
  fields_later s (f ∷ fs) = ap₂ (Part f.label) (value_later s f.ty) (fields_later s fs)

  cases_later : (s : Space) (cs : List CaseType) → cases_of (space_later k s) cs ≡ parts_with (later k) (cases_of s cs)
  cases_later s [] = refl
  cases_later s (c ∷ cs) = ap₂ (case_part c.label) (some_value_later s c.ty) (cases_later s cs) ∙ sym (with-case_part (later k) c.label (option_map (value_of s) c.ty) (cases_of s cs))

  unnamed_later : (s : Space) (tys : List ValType) → unnamed (map (value_of (space_later k s)) tys) ≡ parts_with (later k) (unnamed (map (value_of s) tys))
  unnamed_later s [] = refl
  unnamed_later s (ty ∷ tys) = ap₂ (Part []) (value_later s ty) (unnamed_later s tys)

  func_of_later : (s : Space) (params : List LabelType) (result : Option ValType) → func_of (space_later k s) params result ≡ func_with (later k) (func_of s params result)
  func_of_later s params result = ap₂ (λ ps a. record { params = ps; answer = a }) (fields_later s params) (some_value_later s result)

  own_later : (o : Option ℕ) → handle_of OwnType (option_map (later k) o) ≡ value_with (later k) (handle_of OwnType o)
  own_later None = refl
  own_later (Some r) = refl

  borrow_later : (o : Option ℕ) → handle_of BorrowType (option_map (later k) o) ≡ value_with (later k) (handle_of BorrowType o)
  borrow_later None = refl
  borrow_later (Some r) = refl

  kind_of_later : (s : Space) (d : TypeDef) → kind_of (space_later k s) d ≡ kind_with (later k) (kind_of s d)
  kind_of_later s (defs.Primitive p) = ap ValueKind (sym (primitive_later k p))
  kind_of_later s (defs.Record fields) = ap (λ ps. ValueKind (RecordType AsRecord ps)) (fields_later s fields)
  kind_of_later s (defs.Variant cases) = ap (λ ps. ValueKind (VariantType AsVariant ps)) (cases_later s cases)
  kind_of_later s (defs.List item) = ap (λ ty. ValueKind (ListType ty)) (value_later s item)
  kind_of_later s (defs.Tuple types) = ap (λ ps. ValueKind (RecordType AsTuple ps)) (unnamed_later s types)
  kind_of_later s (defs.Flags labels) = refl
  kind_of_later s (defs.Enum labels) = ap (λ ps. ValueKind (VariantType AsEnum ps)) (sym (with-bare (later k) labels))
  kind_of_later s (defs.Option item) = ap (λ ty. ValueKind (VariantType AsOption (Bare [] (Part [] ty NoParts)))) (value_later s item)
  kind_of_later s (defs.Result ok err) =
      ap (λ ps. ValueKind (VariantType AsResult ps))
      (ap₂ (case_part []) (some_value_later s ok) (ap (λ o. case_part [] o NoParts) (some_value_later s err) ∙ sym (with-case_part (later k) [] (option_map (value_of s) err) NoParts))
      ∙ sym (with-case_part (later k) [] (option_map (value_of s) ok) (case_part [] (option_map (value_of s) err) NoParts)))
  kind_of_later s (defs.Own i) = ap (λ o. ValueKind (handle_of OwnType o)) (ap resource_in (kind_at_later s i) ∙ resource_in_later (kind_at s i)) ∙ ap ValueKind (own_later (resource_in (kind_at s i)))
  kind_of_later s (defs.Borrow i) = ap (λ o. ValueKind (handle_of BorrowType o)) (ap resource_in (kind_at_later s i) ∙ resource_in_later (kind_at s i)) ∙ ap ValueKind (borrow_later (resource_in (kind_at s i)))
  kind_of_later s (defs.Func params result) = ap FuncKind (func_of_later s params result)
  kind_of_later s (defs.Instance declarations) = refl
  kind_of_later s (defs.Resource destructor) = refl

  -- ---- one more

  item_at_later : (s : Space) (sort : Sort) (i : ℕ) → item_at (space_later k s) sort i ≡ option_map (item_with (later k)) (item_at s sort i)
  item_at_later s sorts.Func i = ap (option_map FuncItem) (slice_get-map (func_with (later k)) s.functions i) ∙ go (slice_get s.functions i)
    where
      go : (o : Option PlainFunc) → option_map FuncItem (option_map (func_with (later k)) o) ≡ option_map (item_with (later k)) (option_map FuncItem o)
      go None = refl
      go (Some ty) = refl
  item_at_later s sorts.Type i = ap (option_map KindItem) (kind_at_later s i) ∙ go (kind_at s i)
    where
      go : (o : Option Kind) → option_map KindItem (option_map (kind_with (later k)) o) ≡ option_map (item_with (later k)) (option_map KindItem o)
      go None = refl
      go (Some kind) = refl
  item_at_later s sorts.Instance i = ap (option_map InstanceItem) (slice_get-map (entries_with (later k)) s.instances i) ∙ go (slice_get s.instances i)
    where
      go : (o : Option Entries) → option_map InstanceItem (option_map (entries_with (later k)) o) ≡ option_map (item_with (later k)) (option_map InstanceItem o)
      go None = refl
      go (Some entries) = refl

  and_type_later : (s : Space) (e : TypeEntry) → and_type (space_later k s) (entry_later k e) ≡ space_later k (and_type s e)
  and_type_later s e = ap (λ z. record (space_later k s) { types = z }) (sym (map-append (entry_later k) s.types (e ∷ [])))

  entry_of_later : (kind : Kind) → entry_of (kind_with (later k) kind) ≡ entry_later k (entry_of kind)
  entry_of_later kind = ap (λ d. record { kind = kind_with (later k) kind; depth = d }) (kind_depth_later k kind)

  and_item_later : (s : Space) (item : Item) → and_item (space_later k s) (item_with (later k) item) ≡ space_later k (and_item s item)
  and_item_later s (FuncItem ty) = ap (λ z. record (space_later k s) { functions = z }) (sym (map-append (func_with (later k)) s.functions (ty ∷ [])))
  and_item_later s (InstanceItem entries) = ap (λ z. record (space_later k s) { instances = z }) (sym (map-append (entries_with (later k)) s.instances (entries ∷ [])))
  and_item_later s (KindItem kind) = ap (and_type (space_later k s)) (entry_of_later kind) ∙ and_type_later s (entry_of kind)

  some_item_later : (s : Space) (o : Option Item) → and_some_item (space_later k s) (option_map (item_with (later k)) o) ≡ space_later k (and_some_item s o)
  some_item_later s None = refl
  some_item_later s (Some item) = and_item_later s item

  some_type_later : (s : Space) (o : Option TypeEntry) → and_some_type (space_later k s) (option_map (entry_later k) o) ≡ space_later k (and_some_type s o)
  some_type_later s None = refl
  some_type_later s (Some e) = and_type_later s e

  type_at_later : (s o : Space) (index : ℕ) → and_some_type (space_later k s) (slice_get (space_later k o).types index) ≡ space_later k (and_some_type s (slice_get o.types index))
  type_at_later s o index = ap (and_some_type (space_later k s)) (slice_get-map (entry_later k) o.types index) ∙ some_type_later s (slice_get o.types index)

  core_item_later : (s : Space) (item : CoreItem) → and_core_item (space_later k s) item ≡ space_later k (and_core_item s item)
  core_item_later s (core_items.Func ty) = refl
  core_item_later s (core_items.Table ty limits) = refl
  core_item_later s (core_items.Memory limits) = refl
  core_item_later s (core_items.Global ty variable) = refl

  some_core_later : (s : Space) (o : Option CoreItem) → and_some_core_item (space_later k s) o ≡ space_later k (and_some_core_item s o)
  some_core_later s None = refl
  some_core_later s (Some item) = core_item_later s item

  core_space_later : (s : Space) (sort : CoreSort) → core_space (space_later k s) sort ≡ core_space s sort
  core_space_later s core_sorts.Func = refl
  core_space_later s core_sorts.Table = refl
  core_space_later s core_sorts.Memory = refl
  core_space_later s core_sorts.Global = refl

  core_named_later : (s : Space) (es : List CoreNamed) → core_named (space_later k s) es ≡ core_named s es
  core_named_later s [] = refl
  core_named_later s (e ∷ es) = ap₂ (λ sp rest. and_core_named (slice_get sp e.index) e.name rest) (core_space_later s e.sort) (core_named_later s es)

  core_exports_later : (s : Space) (i : CoreInstance) → core_exports (space_later k s) i ≡ core_exports s i
  core_exports_later s (core_instances.Instantiate m args) = refl
  core_exports_later s (core_instances.Inline exports) = core_named_later s exports

  some_module_later : (s : Space) (o : Option ModuleType) → and_some_module (space_later k s) o ≡ space_later k (and_some_module s o)
  some_module_later s None = refl
  some_module_later s (Some m) = refl

  and_component_later : (s : Space) (c : NestedComponent) → and_component (space_later k s) (nested_later k c) ≡ space_later k (and_component s c)
  and_component_later s c = ap (λ z. record (space_later k s) { components = z }) (sym (map-append (nested_later k) s.components (c ∷ [])))

  some_component_later : (s : Space) (o : Option NestedComponent) → and_some_component (space_later k s) (option_map (nested_later k) o) ≡ space_later k (and_some_component s o)
  some_component_later s None = refl
  some_component_later s (Some c) = and_component_later s c

  outer_later : (s : Space) (sort : OuterSort) (o : Option Space) (index : ℕ) → and_outer (space_later k s) sort (option_map (space_later k) o) index ≡ space_later k (and_outer s sort o index)
  outer_later s sort None index = refl
  outer_later s outer_sorts.CoreModule (Some o) index = some_module_later s (slice_get o.core_modules index)
  outer_later s outer_sorts.Type (Some o) index = type_at_later s o index
  outer_later s outer_sorts.Component (Some o) index = ap (and_some_component (space_later k s)) (slice_get-map (nested_later k) o.components index) ∙ some_component_later s (slice_get o.components index)

  -- ---- instances

  and_named_later : (o : Option Item) (name : Name) (rest : Entries) → and_named (option_map (item_with (later k)) o) name (entries_with (later k) rest) ≡ entries_with (later k) (and_named o name rest)
  and_named_later None name rest = refl
  and_named_later (Some item) name rest = refl

  named_items_later : (s : Space) (es : List NamedItem) → named_items (space_later k s) es ≡ entries_with (later k) (named_items s es)
  named_items_later s [] = refl
  named_items_later s (e ∷ es) =
      ap₂ (λ o rest. and_named o e.name rest) (item_at_later s e.sort e.index) (named_items_later s es) ∙ and_named_later (item_at s e.sort e.index) e.name (named_items s es)

  own_numbers_later : (s : Space) (c : NestedComponent) → numbered (map (later k) c.own) (k + s.next) ≡ map (pair_later k) (numbered c.own s.next)
  own_numbers_later s c = numbered_later k c.own s.next

  instantiated_later : (s : Space) (o : Option NestedComponent) (args : Entries) → and_instantiated (space_later k s) (option_map (nested_later k) o) (entries_with (later k) args) ≡ space_later k (and_instantiated s o args)
  instantiated_later s None args = and_item_later s (InstanceItem End)
  instantiated_later s (Some c) args =
      let given : given_by (entries_with (later k) args) (entries_with (later k) c.signature.imports) ++ numbered (map (later k) c.own) (k + s.next) ≡ map (pair_later k) (given_by args c.signature.imports ++ numbered c.own s.next) =
      ap₂ (λ x y. x ++ y) (given_later k args c.signature.imports) (numbered_later k c.own s.next) ∙ sym (map-append (pair_later k) (given_by args c.signature.imports) (numbered c.own s.next)) in
      let made : renamed (given_by (entries_with (later k) args) (entries_with (later k) c.signature.imports) ++ numbered (map (later k) c.own) (k + s.next)) (entries_with (later k) c.signature.exports) ≡ entries_with (later k) (renamed (given_by args c.signature.imports ++ numbered c.own s.next) c.signature.exports) =
      ap (λ ps. renamed ps (entries_with (later k) c.signature.exports)) given ∙ renamed_later k (given_by args c.signature.imports ++ numbered c.own s.next) c.signature.exports in
      let many : k + s.next + length (map (later k) c.own) ≡ k + (s.next + length c.own) = ap (λ n. k + s.next + n) (length-map c.own (later k)) ∙ (let q : k + s.next + length c.own ≡ k + (s.next + length c.own) = omega arith in q) in
      ap₂ (λ es n. record (space_later k s) { instances = map (entries_with (later k)) s.instances ++ es ∷ []; next = n }) made many
      ∙ ap (λ z. record (space_later k s) { instances = z; next = k + (s.next + length c.own) }) (sym (map-append (entries_with (later k)) s.instances (renamed (given_by args c.signature.imports ++ numbered c.own s.next) c.signature.exports ∷ [])))

  instance_later : (s : Space) (i : Instance) → and_instance (space_later k s) i ≡ space_later k (and_instance s i)
  instance_later s (instances.Instantiate c args) =
      ap₂ (and_instantiated (space_later k s)) (slice_get-map (nested_later k) s.components c) (named_items_later s args) ∙ instantiated_later s (slice_get s.components c) (named_items s args)
  instance_later s (instances.Inline exports) = ap (λ es. and_item (space_later k s) (InstanceItem es)) (named_items_later s exports) ∙ and_item_later s (InstanceItem (named_items s exports))

  export_found : (s : Space) (instance : ℕ) (name : Name) → option_and_then (look_up name) (slice_get (space_later k s).instances instance) ≡ option_map (item_with (later k)) (option_and_then (look_up name) (slice_get s.instances instance))
  export_found s instance name = ap (option_and_then (look_up name)) (slice_get-map (entries_with (later k)) s.instances instance) ∙ go (slice_get s.instances instance)
    where
      go : (o : Option Entries) → option_and_then (look_up name) (option_map (entries_with (later k)) o) ≡ option_map (item_with (later k)) (option_and_then (look_up name) o)
      go None = refl
      go (Some es) = look_up_later k name es

  export_later : (s : Space) (instance : ℕ) (name : Name) → and_some_item (space_later k s) (option_and_then (look_up name) (slice_get (space_later k s).instances instance)) ≡ space_later k (and_some_item s (option_and_then (look_up name) (slice_get s.instances instance)))
  export_later s instance name = ap (and_some_item (space_later k s)) (export_found s instance name) ∙ some_item_later s (option_and_then (look_up name) (slice_get s.instances instance))

  -- ---- descriptions

  pub brought_later : (s : Space) (desc : ExternDesc) → brought (space_later k s) desc ≡ map (pair_later k) (brought s desc)
  brought_later s (descs.Func i) = refl
  brought_later s (descs.TypeEq i) = refl
  brought_later s descs.Resource = refl
  brought_later s (descs.Instance i) =
      ap (λ rs. numbered rs (k + s.next)) (ap (λ o. (instance_in o).0) (kind_at_later s i) ∙ own_in_later (kind_at s i)) ∙ numbered_later k (instance_in (kind_at s i)).0 s.next

  kind_item_later : (o : Option Kind) → kind_item (option_map (kind_with (later k)) o) ≡ item_with (later k) (kind_item o)
  kind_item_later None = refl
  kind_item_later (Some kind) = refl

  pub described_later : (s : Space) (desc : ExternDesc) → described (space_later k s) desc ≡ item_with (later k) (described s desc)
  described_later s (descs.Func i) = ap FuncItem (ap func_in (kind_at_later s i) ∙ func_in_later (kind_at s i))
  described_later s (descs.TypeEq i) = ap kind_item (kind_at_later s i) ∙ kind_item_later (kind_at s i)
  described_later s descs.Resource = refl
  described_later s (descs.Instance i) =
      ap InstanceItem
      (ap₂ renamed (brought_later s (descs.Instance i)) (ap (λ o. (instance_in o).1) (kind_at_later s i) ∙ entries_in_later (kind_at s i))
      ∙ renamed_later k (brought s (descs.Instance i)) (instance_in (kind_at s i)).1)

  depth_in_later : (o : Option TypeEntry) → depth_in (option_map (entry_later k) o) ≡ depth_in o
  depth_in_later None = refl
  depth_in_later (Some e) = refl

  depth_at_later : (s : Space) (i : ℕ) → depth_in (slice_get (space_later k s).types i) ≡ depth_in (slice_get s.types i)
  depth_at_later s i = ap depth_in (slice_get-map (entry_later k) s.types i) ∙ depth_in_later (slice_get s.types i)

  described_depth_later : (s : Space) (desc : ExternDesc) → described_depth (space_later k s) desc ≡ described_depth s desc
  described_depth_later s (descs.Func i) = depth_at_later s i
  described_depth_later s (descs.TypeEq i) = depth_at_later s i
  described_depth_later s descs.Resource = refl
  described_depth_later s (descs.Instance i) = depth_at_later s i

  index_later : (s : Space) (desc : ExternDesc) → and_index (space_later k s) desc ≡ space_later k (and_index s desc)
  index_later s (descs.Func i) = ap (and_item (space_later k s)) (described_later s (descs.Func i)) ∙ and_item_later s (described s (descs.Func i))
  index_later s (descs.TypeEq i) = type_at_later s s i
  index_later s descs.Resource = and_item_later s (described s descs.Resource)
  index_later s (descs.Instance i) = ap (and_item (space_later k s)) (described_later s (descs.Instance i)) ∙ and_item_later s (described s (descs.Instance i))

  and_described_later : (s : Space) (desc : ExternDesc) → and_described (space_later k s) desc ≡ space_later k (and_described s desc)
  and_described_later s desc =
      ap₂ (λ (z : Space) (n : ℕ). record z { next = n }) (index_later s desc) (ap (λ ps. k + s.next + length ps) (brought_later s desc) ∙ lengths_later k s.next (brought s desc))

  new_later : (ps : List (ℕ × ℕ)) → new_numbers (map (pair_later k) ps) ≡ map (later k) (new_numbers ps)
  new_later [] = refl
  new_later (p ∷ ps) = ap (λ z. (k + p.1) ∷ z) (new_later ps)

  and_new_later : (s : Space) (old : List ℕ) (desc : ExternDesc) → map (later k) old ++ new_numbers (brought (space_later k s) desc) ≡ map (later k) (old ++ new_numbers (brought s desc))
  and_new_later s old desc = ap (λ ps. map (later k) old ++ new_numbers ps) (brought_later s desc) ∙ ap (λ z. map (later k) old ++ z) (new_later (brought s desc)) ∙ sym (map-append (later k) old (new_numbers (brought s desc)))

  -- ---- definitions of types

  resource_later : (s : Space) (d : TypeDef) → and_resource (space_later k s) d ≡ space_later k (and_resource s d)
  resource_later s (defs.Primitive p) = refl
  resource_later s (defs.Record fields) = refl
  resource_later s (defs.Variant cases) = refl
  resource_later s (defs.List item) = refl
  resource_later s (defs.Tuple types) = refl
  resource_later s (defs.Flags labels) = refl
  resource_later s (defs.Enum labels) = refl
  resource_later s (defs.Option item) = refl
  resource_later s (defs.Result ok err) = refl
  resource_later s (defs.Own i) = refl
  resource_later s (defs.Borrow i) = refl
  resource_later s (defs.Func params result) = refl
  resource_later s (defs.Instance declarations) = refl
  resource_later s (defs.Resource destructor) = ap₂ (λ ds n. record (space_later k s) { defined = ds; next = n }) (sym (map-append (later k) s.defined (s.next ∷ []))) (next_later k s.next)

  entry_later_of : (s : Space) (d : TypeDef) → entry_of (kind_of (space_later k s) d) ≡ entry_later k (entry_of (kind_of s d))
  entry_later_of s d = ap entry_of (kind_of_later s d) ∙ entry_of_later (kind_of s d)

  type_def_later : (s : Space) (d : TypeDef) → and_type_def (space_later k s) d ≡ space_later k (and_type_def s d)
  type_def_later s d =
      ap (λ e. and_resource (and_type (space_later k s) e) d) (entry_later_of s d) ∙ ap (λ z. and_resource z d) (and_type_later s (entry_of (kind_of s d))) ∙ resource_later (and_type s (entry_of (kind_of s d))) d

  instance_type_later : (s inner : Space) → and_instance_type (space_later k s) (space_later k inner) ≡ space_later k (and_instance_type s inner)
  instance_type_later s inner = ap (λ (z : Space). record z { next = k + inner.next }) (and_type_later s (instance_type inner))

  type_export_later : (s : Space) (name : Name) (desc : ExternDesc) → and_type_export (space_later k s) name desc ≡ space_later k (and_type_export s name desc)
  type_export_later s name desc =
      ap₂ (λ (z : Space) (d : ℕ). record (and_depth z d) { exports = and_entry (entries_with (later k) s.exports) name (described (space_later k s) desc); defined = map (later k) s.defined ++ new_numbers (brought (space_later k s) desc) }) (and_described_later s desc) (described_depth_later s desc)
      ∙ ap₂ (λ es ds. record (and_depth (space_later k (and_described s desc)) (described_depth s desc)) { exports = es; defined = ds })
      (ap (and_entry (entries_with (later k) s.exports) name) (described_later s desc) ∙ and_entry_later k s.exports name (described s desc)) (and_new_later s s.defined desc)

  pub lowered_later : (o : Option PlainFunc) → lowered_at (option_map (func_with (later k)) o) ≡ lowered_at o
  lowered_later None = refl
  lowered_later (Some ty) = ap core_type (lowered_with (later k) ty)

  -- around the component there may be anything
  module _ (around : List Space) where
    abbrev within : List Space → List Space
    within own = map (space_later k) own ++ around

    -- a scope further out
    scope_later : (own : List Space) (s : Space) (count : ℕ) → count < length own + 1 → slice_get (space_later k s ∷ within own) count ≡ option_map (space_later k) (slice_get (s ∷ own) count)
    scope_later own s count lt = got_within (space_later k) (s ∷ own) around count (omega (arith, lt))

    alias_later : (own : List Space) (s : Space) (a : Alias) → Defines (length own + 1) (AnAlias a) → and_alias (within own) (space_later k s) a ≡ space_later k (and_alias own s a)
    alias_later own s (aliases.Export sort instance name) stays = export_later s instance name
    alias_later own s (aliases.CoreExport sort instance name) stays = some_core_later s (option_and_then (core_look_up name) (slice_get s.core_instances instance))
    alias_later own s (aliases.Outer sort count index) stays = ap (λ o. and_outer (space_later k s) sort o index) (scope_later own s count stays) ∙ outer_later s sort (slice_get (s ∷ own) count) index

    type_alias_later : (own : List Space) (s : Space) (a : TypeAlias) → Declares (length own + 1) (ATypeAlias a) → and_type_alias (within own) (space_later k s) a ≡ space_later k (and_type_alias own s a)
    type_alias_later own s (type_aliases.Export instance name) stays = export_later s instance name
    type_alias_later own s (type_aliases.Outer count index) stays = ap (λ o. and_outer (space_later k s) outer_sorts.Type o index) (scope_later own s count stays) ∙ outer_later s outer_sorts.Type (slice_get (s ∷ own) count) index

    mutual
      declaration_later : (own : List Space) (s : Space) (d : Declaration) → Declares (length own + 1) d → after_declaration (within own) (space_later k s) d ≡ space_later k (after_declaration own s d)
      declaration_later own s (ATypeDef d) stays = ap₂ (λ z (e : TypeEntry). and_depth z e.depth) (type_def_later s d) (entry_later_of s d)
      declaration_later own s (AnInstanceType ds) stays =
          ap (λ inner. and_depth (and_instance_type (space_later k s) inner) (instance_type inner).depth) (declarations_later (s ∷ own) (opened s) ds (one_more_declared own s ds stays))
          ∙ ap (λ z. and_depth z (instance_type (after_declarations (s ∷ own) (opened s) ds)).depth) (instance_type_later s (after_declarations (s ∷ own) (opened s) ds))
      declaration_later own s (ATypeAlias a) stays = type_alias_later own s a stays
      declaration_later own s (ATypeExport name desc) stays = type_export_later s name desc

      declarations_later : (own : List Space) (s : Space) (ds : Declarations) → DeclareAll (length own + 1) ds → after_declarations (within own) (space_later k s) ds ≡ space_later k (after_declarations own s ds)
      declarations_later own s Done stays = refl
      declarations_later own s (Then d ds) stays = ap (λ z. after_declarations (within own) z ds) (declaration_later own s d stays.0) ∙ declarations_later own (after_declaration own s d) ds stays.1

    -- ---- canonical functions, imports and exports

    canon_later : (s : Space) (c : Canon) → and_canon (space_later k s) c ≡ space_later k (and_canon s c)
    canon_later s (canons.Lift func options ty) =
        ap (λ f. and_item (space_later k s) (FuncItem f)) (ap func_in (kind_at_later s ty) ∙ func_in_later (kind_at s ty)) ∙ and_item_later s (FuncItem (func_in (kind_at s ty)))
    canon_later s (canons.Lower func options) =
        ap (λ ty. and_core_item (space_later k s) (core_items.Func ty)) (ap lowered_at (slice_get-map (func_with (later k)) s.functions func) ∙ lowered_later (slice_get s.functions func))
        ∙ core_item_later s (core_items.Func (lowered_at (slice_get s.functions func)))
    canon_later s (canons.ResourceNew ty) = refl
    canon_later s (canons.ResourceDrop ty) = refl
    canon_later s (canons.ResourceRep ty) = refl

    import_later : (s : Space) (i : ComponentImport) → and_import (space_later k s) i ≡ space_later k (and_import s i)
    import_later s i =
        ap (λ (z : Space). record z { imports = and_entry (entries_with (later k) s.imports) i.name (described (space_later k s) i.desc); imported = map (later k) s.imported ++ new_numbers (brought (space_later k s) i.desc) }) (and_described_later s i.desc)
        ∙ ap₂ (λ es rs. record (space_later k (and_described s i.desc)) { imports = es; imported = rs })
        (ap (and_entry (entries_with (later k) s.imports) i.name) (described_later s i.desc) ∙ and_entry_later k s.imports i.name (described s i.desc)) (and_new_later s s.imported i.desc)

    again_later : (s : Space) (sort : Sort) (index : ℕ) → and_again (space_later k s) sort index ≡ space_later k (and_again s sort index)
    again_later s sorts.Type index = type_at_later s s index
    again_later s sorts.Func index = ap (and_some_item (space_later k s)) (item_at_later s sorts.Func index) ∙ some_item_later s (item_at s sorts.Func index)
    again_later s sorts.Instance index = ap (and_some_item (space_later k s)) (item_at_later s sorts.Instance index) ∙ some_item_later s (item_at s sorts.Instance index)

    some_entry_later : (es : Entries) (name : Name) (o : Option Item) → and_some_entry (entries_with (later k) es) name (option_map (item_with (later k)) o) ≡ entries_with (later k) (and_some_entry es name o)
    some_entry_later es name None = refl
    some_entry_later es name (Some item) = and_entry_later k es name item

    abbrev export_of : Name → Sort → ℕ → Option ExternDesc → ComponentExport
    export_of name sort index desc = record { name = name; sort = sort; index = index; desc = desc }

    stated_later : (s : Space) (name : Name) (sort : Sort) (index : ℕ) (desc : Option ExternDesc) → and_export (space_later k s) (export_of name sort index desc) ≡ space_later k (and_export s (export_of name sort index desc))
    stated_later s name sort index None =
        ap₂ (λ (z : Space) (o : Option Item). record z { exports = and_some_entry (entries_with (later k) s.exports) name o }) (again_later s sort index) (item_at_later s sort index)
        ∙ ap (λ es. record (space_later k (and_again s sort index)) { exports = es }) (some_entry_later s.exports name (item_at s sort index))
    stated_later s name sort index (Some desc) =
        ap₂ (λ (z : Space) (i : Item). record z { exports = and_entry (entries_with (later k) s.exports) name i }) (and_described_later s desc) (described_later s desc)
        ∙ ap (λ es. record (space_later k (and_described s desc)) { exports = es }) (and_entry_later k s.exports name (described s desc))

    -- ---- all definitions

    pub after_later : (own : List Space) (s : Space) (d : Definition) → Defines (length own + 1) d → after (within own) (space_later k s) d ≡ space_later k (after own s d)
    after_later own s (ACoreInstance i) stays = ap (λ es. record (space_later k s) { core_instances = s.core_instances ++ es ∷ [] }) (core_exports_later s i)
    after_later own s (AnInstance i) stays = instance_later s i
    after_later own s (AnAlias a) stays = alias_later own s a stays
    after_later own s (AType d) stays = declaration_later own s d stays
    after_later own s (ACanon c) stays = canon_later s c
    after_later own s (AnImport i) stays = import_later s i
    after_later own s (AnExport e) stays = stated_later s e.name e.sort e.index e.desc

    pub all_later : (own : List Space) (s : Space) (ds : List Definition) → DefineAll (length own + 1) ds → after_all (within own) (space_later k s) ds ≡ space_later k (after_all own s ds)
    all_later own s [] stays = refl
    all_later own s (d ∷ ds) stays = ap (λ z. after_all (within own) z ds) (after_later own s d stays.0) ∙ all_later own (after own s d) ds stays.1

    nested_of_later : (inner : Space) → nested_of (space_later k inner) ≡ nested_later k (nested_of inner)
    nested_of_later inner =
        ap (λ own. record { signature = record { imports = entries_with (later k) inner.imports; exports = entries_with (later k) inner.exports }; own = own })
        (ap (λ rs. without (map (later k) inner.imported) (distinct rs)) (entries_named k inner.exports) ∙ ap (without (map (later k) inner.imported)) (distinct_later k (named_in inner.exports)) ∙ without_later k inner.imported (distinct (named_in inner.exports)))

    and_nested_later : (s inner : Space) → and_nested (space_later k s) (space_later k inner) ≡ space_later k (and_nested s inner)
    and_nested_later s inner = ap (λ c. record (and_component (space_later k s) c) { next = k + inner.next }) (nested_of_later inner) ∙ ap (λ (z : Space). record z { next = k + inner.next }) (and_component_later s (nested_of inner))

    mutual
      pub part_later : (own : List Space) (s : Space) (part : Section) → Stays (length own + 1) part → after_part (within own) (space_later k s) part ≡ space_later k (after_part own s part)
      part_later own s (CoreModule span m) stays = refl
      part_later own s (Nested span tree) stays = ap (and_nested (space_later k s)) (tree_later (s ∷ own) (entered s) tree (one_more own s tree stays)) ∙ and_nested_later s (after_tree (s ∷ own) (entered s) tree)
      part_later own s (CoreInstances items) stays = all_later own s (definitions (CoreInstances items)) stays
      part_later own s (Instances items) stays = all_later own s (definitions (Instances items)) stays
      part_later own s (Aliases items) stays = all_later own s (definitions (Aliases items)) stays
      part_later own s (Types items) stays = all_later own s (definitions (Types items)) stays
      part_later own s (Canons items) stays = all_later own s (definitions (Canons items)) stays
      part_later own s (Imports items) stays = all_later own s (definitions (Imports items)) stays
      part_later own s (Exports items) stays = all_later own s (definitions (Exports items)) stays
      part_later own s (Custom span) stays = refl

      pub tree_later : (own : List Space) (s : Space) (tree : Tree) → StaysWhole (length own + 1) tree → after_tree (within own) (space_later k s) tree ≡ space_later k (after_tree own s tree)
      tree_later own s NoSections stays = refl
      tree_later own s (Sections part rest) stays = ap (λ z. after_tree (within own) z rest) (part_later own s part stays.0) ∙ tree_later own (after_part own s part) rest stays.1
