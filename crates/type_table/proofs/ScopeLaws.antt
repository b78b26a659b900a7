-- A table that has all value types of the index spaces, and what a definition makes anew, has those after the definition.
use Rattle.std.proofs.Common.{◌≡◌, refl, sym, subst, ℕ, zero, suc, List, [], ◌∷◌, Bool, Option, Some, None, slice_get}
use Rattle.std.specs.Prelude.{All, IfSome}
use Rattle.std.specs.Option.{option_map, option_and_then}
use Rattle.std.proofs.lemmas.List.Elements.{All-head, All-tail, All-nil, All-push, All-weaker}
use Rattle.wasm_ast.specs.declared.component.TypeDef.{TypeDef}
use Rattle.wasm_ast.specs.declared.component.TypeDef.TheVariants as defs
use Rattle.wasm_ast.specs.declared.component.TypeAlias.{TypeAlias}
use Rattle.wasm_ast.specs.declared.component.TypeAlias.TheVariants as type_aliases
use Rattle.wasm_ast.specs.declared.component.Alias.{Alias}
use Rattle.wasm_ast.specs.declared.component.Alias.TheVariants as aliases
use Rattle.wasm_ast.specs.declared.component.OuterSort.{OuterSort}
use Rattle.wasm_ast.specs.declared.component.OuterSort.TheVariants as outer_sorts
use Rattle.wasm_ast.specs.declared.component.Sort.{Sort}
use Rattle.wasm_ast.specs.declared.component.Sort.TheVariants as sorts
use Rattle.wasm_ast.specs.declared.component.NamedItem.{NamedItem}
use Rattle.wasm_ast.specs.declared.component.Instance.{Instance}
use Rattle.wasm_ast.specs.declared.component.Instance.TheVariants as instances
use Rattle.wasm_ast.specs.declared.component.Canon.{Canon}
use Rattle.wasm_ast.specs.declared.component.Canon.TheVariants as canons
use Rattle.wasm_ast.specs.declared.component.ComponentImport.{ComponentImport}
use Rattle.wasm_ast.specs.declared.component.ComponentExport.{ComponentExport}
use Rattle.wasm_ast.specs.declared.component.ExternDesc.{ExternDesc}
use Rattle.wasm_ast.specs.declared.component.ExternDesc.TheVariants as descs
use Rattle.core_validate.specs.declared.item.CoreItem.{CoreItem}
use Rattle.core_validate.specs.declared.item.CoreItem.TheVariants as core_items
use Rattle.core_validate.specs.declared.item.ModuleType.{ModuleType}
use Rattle.wit_types.specs.Plain.{Name, PlainFunc}
use Rattle.comp_types.specs.Items.{Item, Kind, Entries, FuncItem, InstanceItem, KindItem, FuncKind, InstanceKind, End, look_up}
use Rattle.comp_types.specs.Declarations.{Declaration, ATypeDef, AnInstanceType, ATypeAlias, ATypeExport}
use Rattle.comp_types.specs.Definitions.{Definition, ACoreInstance, AnInstance, AnAlias, AType, ACanon, AnImport, AnExport}
use Rattle.comp_types.specs.Spaces.{Space, TypeEntry, NestedComponent, empty_space, kind_at, item_at, and_core_item, and_type, entry_of, and_item}
use Rattle.comp_types.specs.Types.{func_in, instance_in, kind_of}
use Rattle.comp_types.specs.CoreMatching.{core_look_up}
use Rattle.comp_types.specs.Added.{after, after_declaration, and_named, named_items, and_instantiated, and_instance, and_some_item, and_some_core_item, and_some_type, and_module, and_some_module, and_component, and_some_component, and_outer, and_alias, kind_item, described, and_index, and_described, and_resource, and_depth, and_instance_type, instance_type, and_type_alias, and_type_export, takes_and_gives, takes_one, lowered_at, and_canon, and_import, and_again, exported, and_export_index, and_some_entry, and_export, and_nested, nested_of}
use Rattle.type_table.specs.Tables.{Types, IsSound, HasFunc, HasItem, HasKind, HasEntries, Grew}
use Rattle.type_table.specs.Covers.{HasNested, Covers, CoversEach, HasSome}
use Rattle.type_table.specs.Anew.{HasInstantiated, HasInstance, HasStated, HasDeclared, HasNew}
use Rattle.type_table.proofs.HasLaws.{func-grew, kind-grew, entries-grew, found-has, and_entry-has}

-- ---- what stands at an index

module _ {X : Type 0} (P : X → Type 0) where
  pub some_at : (xs : List X) (i : ℕ) → All P xs → IfSome (slice_get xs i) P
  some_at [] i h = tt
  some_at (x ∷ xs) zero h = All-head P x xs h
  some_at (x ∷ xs) (suc i) h = some_at xs i (All-tail P x xs h)

  pub at_index : (xs : List X) (i : ℕ) (x : X) → All P xs → slice_get xs i ≡ Some x → P x
  at_index xs i x h e = subst (λ o. IfSome o P) e (some_at xs i h)

module _ (T : Types) where
  kind-of_entry : (o : Option TypeEntry) → IfSome o (λ (e : TypeEntry). HasKind T e.kind) → IfSome (option_map (λ (e : TypeEntry). e.kind) o) (HasKind T)
  kind-of_entry None h = tt
  kind-of_entry (Some e) h = h

  pub kind-some : (s : Space) (i : ℕ) → Covers T s → IfSome (kind_at s i) (HasKind T)
  kind-some s i c = kind-of_entry (slice_get s.types i) (some_at (λ (e : TypeEntry). HasKind T e.kind) s.types i c.types)

  pub kind_at_has : (s : Space) (i : ℕ) (kind : Kind) → Covers T s → kind_at s i ≡ Some kind → HasKind T kind
  kind_at_has s i kind c e = subst (λ o. IfSome o (HasKind T)) e (kind-some s i c)

  pub type_at : (s : Space) (i : ℕ) (e : TypeEntry) → Covers T s → slice_get s.types i ≡ Some e → HasKind T e.kind
  type_at s i e c is = at_index (λ (x : TypeEntry). HasKind T x.kind) s.types i e c.types is

  pub function_at : (s : Space) (i : ℕ) (ty : PlainFunc) → Covers T s → slice_get s.functions i ≡ Some ty → HasFunc T ty
  function_at s i ty c is = at_index (HasFunc T) s.functions i ty c.functions is

  pub instance_at : (s : Space) (i : ℕ) (es : Entries) → Covers T s → slice_get s.instances i ≡ Some es → HasEntries T es
  instance_at s i es c is = at_index (HasEntries T) s.instances i es c.instances is

  pub component_at : (s : Space) (i : ℕ) (n : NestedComponent) → Covers T s → slice_get s.components i ≡ Some n → HasNested T n
  component_at s i n c is = at_index (HasNested T) s.components i n c.components is

  func-item : (o : Option PlainFunc) → IfSome o (HasFunc T) → HasSome T (option_map FuncItem o)
  func-item None h = tt
  func-item (Some ty) h = h

  kind-item : (o : Option Kind) → IfSome o (HasKind T) → HasSome T (option_map KindItem o)
  kind-item None h = tt
  kind-item (Some kind) h = h

  instance-item : (o : Option Entries) → IfSome o (HasEntries T) → HasSome T (option_map InstanceItem o)
  instance-item None h = tt
  instance-item (Some entries) h = h

  pub item_at_has : (s : Space) (sort : Sort) (i : ℕ) → Covers T s → HasSome T (item_at s sort i)
  item_at_has s sorts.Func i c = func-item (slice_get s.functions i) (some_at (HasFunc T) s.functions i c.functions)
  item_at_has s sorts.Type i c = kind-item (kind_at s i) (kind-some s i c)
  item_at_has s sorts.Instance i c = instance-item (slice_get s.instances i) (some_at (HasEntries T) s.instances i c.instances)

  pub item_at_is : (s : Space) (sort : Sort) (i : ℕ) (item : Item) → Covers T s → item_at s sort i ≡ Some item → HasItem T item
  item_at_is s sort i item c e = subst (HasSome T) e (item_at_has s sort i c)

  -- what an instance exports under a name
  look_up-some : (name : Name) (es : Entries) (o : Option Item) → look_up name es ≡ o → HasEntries T es → HasSome T o
  look_up-some name es None e h = tt
  look_up-some name es (Some item) e h = found-has T name es item e h

  export-some : (name : Name) (o : Option Entries) → IfSome o (HasEntries T) → HasSome T (option_and_then (look_up name) o)
  export-some name None h = tt
  export-some name (Some es) h = look_up-some name es (look_up name es) refl h

  pub export_at_has : (s : Space) (i : ℕ) (name : Name) → Covers T s → HasSome T (option_and_then (look_up name) (slice_get s.instances i))
  export_at_has s i name c = export-some name (slice_get s.instances i) (some_at (HasEntries T) s.instances i c.instances)

  some_space : (spaces : List Space) (i : ℕ) → CoversEach T spaces → IfSome (slice_get spaces i) (Covers T)
  some_space [] i c = tt
  some_space (s ∷ around) zero c = c.0
  some_space (s ∷ around) (suc i) c = some_space around i c.1

  pub covers_at : (spaces : List Space) (i : ℕ) (t : Space) → CoversEach T spaces → slice_get spaces i ≡ Some t → Covers T t
  covers_at spaces i t c e = subst (λ o. IfSome o (Covers T)) e (some_space spaces i c)

  -- ---- an index space with one more

  pub covers_empty : (is_component : Bool) (next : ℕ) → IsSound T → Covers T (empty_space is_component next)
  covers_empty is_component next sound = record {
    sound = sound;
    functions = All-nil (HasFunc T);
    types = All-nil (λ (e : TypeEntry). HasKind T e.kind);
    instances = All-nil (HasEntries T);
    components = All-nil (HasNested T);
    imports = tt;
    exports = tt;
  }

  -- what a table covers does not speak of core items, nor of the numbers of resources
  like : (s t : Space) → Covers T s → t.functions ≡ s.functions → t.types ≡ s.types → t.instances ≡ s.instances → t.components ≡ s.components → HasEntries T t.imports → HasEntries T t.exports → Covers T t
  like s t c f k i n imports exports = record {
    sound = c.sound;
    functions = subst (All (HasFunc T)) (sym f) c.functions;
    types = subst (All (λ (e : TypeEntry). HasKind T e.kind)) (sym k) c.types;
    instances = subst (All (HasEntries T)) (sym i) c.instances;
    components = subst (All (HasNested T)) (sym n) c.components;
    imports = imports;
    exports = exports;
  }

  pub covers_func : (s : Space) (ty : PlainFunc) → Covers T s → HasFunc T ty → Covers T (and_item s (FuncItem ty))
  covers_func s ty c h = record {
    sound = c.sound;
    functions = All-push (HasFunc T) s.functions ty c.functions h;
    types = c.types;
    instances = c.instances;
    components = c.components;
    imports = c.imports;
    exports = c.exports;
  }

  pub covers_type : (s : Space) (e : TypeEntry) → Covers T s → HasKind T e.kind → Covers T (and_type s e)
  covers_type s e c h = record {
    sound = c.sound;
    functions = c.functions;
    types = All-push (λ (x : TypeEntry). HasKind T x.kind) s.types e c.types h;
    instances = c.instances;
    components = c.components;
    imports = c.imports;
    exports = c.exports;
  }

  pub covers_instance : (s : Space) (es : Entries) → Covers T s → HasEntries T es → Covers T (and_item s (InstanceItem es))
  covers_instance s es c h = record {
    sound = c.sound;
    functions = c.functions;
    types = c.types;
    instances = All-push (HasEntries T) s.instances es c.instances h;
    components = c.components;
    imports = c.imports;
    exports = c.exports;
  }

  pub covers_component : (s : Space) (n : NestedComponent) → Covers T s → HasNested T n → Covers T (and_component s n)
  covers_component s n c h = record {
    sound = c.sound;
    functions = c.functions;
    types = c.types;
    instances = c.instances;
    components = All-push (HasNested T) s.components n c.components h;
    imports = c.imports;
    exports = c.exports;
  }

  pub covers_item : (s : Space) (item : Item) → Covers T s → HasItem T item → Covers T (and_item s item)
  covers_item s (FuncItem ty) c h = covers_func s ty c h
  covers_item s (InstanceItem entries) c h = covers_instance s entries c h
  covers_item s (KindItem kind) c h = covers_type s (entry_of kind) c h

  pub covers_module : (s : Space) (m : ModuleType) → Covers T s → Covers T (and_module s m)
  covers_module s m c = like s (and_module s m) c refl refl refl refl c.imports c.exports

  pub covers_core_item : (s : Space) (item : CoreItem) → Covers T s → Covers T (and_core_item s item)
  covers_core_item s (core_items.Func ty) c = like s (and_core_item s (core_items.Func ty)) c refl refl refl refl c.imports c.exports
  covers_core_item s (core_items.Table ty limits) c = like s (and_core_item s (core_items.Table ty limits)) c refl refl refl refl c.imports c.exports
  covers_core_item s (core_items.Memory limits) c = like s (and_core_item s (core_items.Memory limits)) c refl refl refl refl c.imports c.exports
  covers_core_item s (core_items.Global ty variable) c = like s (and_core_item s (core_items.Global ty variable)) c refl refl refl refl c.imports c.exports

  pub covers_next : (s : Space) (next : ℕ) → Covers T s → Covers T (record s { next = next })
  covers_next s next c = like s (record s { next = next }) c refl refl refl refl c.imports c.exports

  pub covers_depth : (s : Space) (depth : ℕ) → Covers T s → Covers T (and_depth s depth)
  covers_depth s depth c = like s (and_depth s depth) c refl refl refl refl c.imports c.exports

  pub covers_some_item : (s : Space) (o : Option Item) → Covers T s → HasSome T o → Covers T (and_some_item s o)
  covers_some_item s None c h = c
  covers_some_item s (Some item) c h = covers_item s item c h

  covers_some_core_item : (s : Space) (o : Option CoreItem) → Covers T s → Covers T (and_some_core_item s o)
  covers_some_core_item s None c = c
  covers_some_core_item s (Some item) c = covers_core_item s item c

  pub covers_some_type : (s : Space) (o : Option TypeEntry) → Covers T s → IfSome o (λ (e : TypeEntry). HasKind T e.kind) → Covers T (and_some_type s o)
  covers_some_type s None c h = c
  covers_some_type s (Some e) c h = covers_type s e c h

  covers_some_module : (s : Space) (o : Option ModuleType) → Covers T s → Covers T (and_some_module s o)
  covers_some_module s None c = c
  covers_some_module s (Some m) c = covers_module s m c

  covers_some_component : (s : Space) (o : Option NestedComponent) → Covers T s → IfSome o (HasNested T) → Covers T (and_some_component s o)
  covers_some_component s None c h = c
  covers_some_component s (Some n) c h = covers_component s n c h

  -- the type at an index once more
  covers_type_at : (s t : Space) (i : ℕ) → Covers T s → Covers T t → Covers T (and_some_type s (slice_get t.types i))
  covers_type_at s t i c d = covers_some_type s (slice_get t.types i) c (some_at (λ (e : TypeEntry). HasKind T e.kind) t.types i d.types)

  -- ---- scopes

  -- with the instance type of a scope in this one
  pub covers_closed : (t s : Space) (depth : ℕ) → Covers T t → Covers T s → Covers T (and_depth (and_instance_type t s) depth)
  covers_closed t s depth c d = covers_depth (and_instance_type t s) depth (covers_next (and_type t (instance_type s)) s.next (covers_type t (instance_type s) c d.exports))

  -- with the component of a scope in this one
  pub covers_nested : (t s : Space) → Covers T t → Covers T s → Covers T (and_nested t s)
  covers_nested t s c d = covers_next (and_component t (nested_of s)) s.next (covers_component t (nested_of s) c (record { imports = d.imports; exports = d.exports }))

  -- ---- instances

  named-has : (o : Option Item) (name : Name) (rest : Entries) → HasSome T o → HasEntries T rest → HasEntries T (and_named o name rest)
  named-has None name rest h k = k
  named-has (Some item) name rest h k = (h, k)

  pub named_items_has : (s : Space) (es : List NamedItem) → Covers T s → HasEntries T (named_items s es)
  named_items_has s [] c = tt
  named_items_has s (e ∷ es) c = named-has (item_at s e.sort e.index) e.name (named_items s es) (item_at_has s e.sort e.index c) (named_items_has s es c)

  covers_instantiated : (s : Space) (o : Option NestedComponent) (args : Entries) → Covers T s → HasInstantiated T s o args → Covers T (and_instantiated s o args)
  covers_instantiated s None args c h = covers_instance s End c tt
  covers_instantiated s (Some n) args c h = let added = covers_instance s _ c h in covers_next _ _ added

  pub covers_made : (s : Space) (i : Instance) → Covers T s → HasInstance T s i → Covers T (and_instance s i)
  covers_made s (instances.Instantiate n args) c h = covers_instantiated s (slice_get s.components n) (named_items s args) c h
  covers_made s (instances.Inline exports) c h = covers_instance s (named_items s exports) c (named_items_has s exports c)

  -- ---- aliases

  covers_outer : (s : Space) (sort : OuterSort) (o : Option Space) (i : ℕ) → Covers T s → IfSome o (Covers T) → Covers T (and_outer s sort o i)
  covers_outer s sort None i c d = c
  covers_outer s outer_sorts.CoreModule (Some t) i c d = covers_some_module s (slice_get t.core_modules i) c
  covers_outer s outer_sorts.Type (Some t) i c d = covers_type_at s t i c d
  covers_outer s outer_sorts.Component (Some t) i c d = covers_some_component s (slice_get t.components i) c (some_at (HasNested T) t.components i d.components)

  pub covers_alias : (around : List Space) (s : Space) (a : Alias) → Covers T s → CoversEach T around → Covers T (and_alias around s a)
  covers_alias around s (aliases.Export sort i name) c d = covers_some_item s (option_and_then (look_up name) (slice_get s.instances i)) c (export_at_has s i name c)
  covers_alias around s (aliases.CoreExport sort i name) c d = covers_some_core_item s (option_and_then (core_look_up name) (slice_get s.core_instances i)) c
  covers_alias around s (aliases.Outer sort count i) c d = covers_outer s sort (slice_get (s ∷ around) count) i c (some_space (s ∷ around) count (c, d))

  pub covers_type_alias : (around : List Space) (s : Space) (a : TypeAlias) → Covers T s → CoversEach T around → Covers T (and_type_alias around s a)
  covers_type_alias around s (type_aliases.Export i name) c d = covers_some_item s (option_and_then (look_up name) (slice_get s.instances i)) c (export_at_has s i name c)
  covers_type_alias around s (type_aliases.Outer count i) c d = covers_outer s outer_sorts.Type (slice_get (s ∷ around) count) i c (some_space (s ∷ around) count (c, d))

  -- ---- descriptions

  in_func : (o : Option Kind) → IfSome o (HasKind T) → HasFunc T (func_in o)
  in_func (Some (FuncKind ty)) h = h
  in_func _ h = (tt, tt)

  pub func_in_has : (s : Space) (i : ℕ) → Covers T s → HasFunc T (func_in (kind_at s i))
  func_in_has s i c = in_func (kind_at s i) (kind-some s i c)

  in_instance : (o : Option Kind) → IfSome o (HasKind T) → HasEntries T (instance_in o).1
  in_instance (Some (InstanceKind own entries)) h = h
  in_instance _ h = tt

  pub instance_in_has : (s : Space) (i : ℕ) → Covers T s → HasEntries T (instance_in (kind_at s i)).1
  instance_in_has s i c = in_instance (kind_at s i) (kind-some s i c)

  kind_item-has : (o : Option Kind) → IfSome o (HasKind T) → HasItem T (kind_item o)
  kind_item-has None h = (tt, tt)
  kind_item-has (Some kind) h = h

  -- but for that of an instance, whose resources are new, what is described stands there already
  pub described_func : (s : Space) (i : ℕ) → Covers T s → HasItem T (described s (descs.Func i))
  described_func s i c = func_in_has s i c

  pub described_type : (s : Space) (i : ℕ) → Covers T s → HasItem T (described s (descs.TypeEq i))
  described_type s i c = kind_item-has (kind_at s i) (kind-some s i c)

  pub described_resource : (s : Space) → HasItem T (described s descs.Resource)
  described_resource s = tt

  covers_index : (s : Space) (d : ExternDesc) → Covers T s → HasItem T (described s d) → Covers T (and_index s d)
  covers_index s (descs.Func i) c h = covers_item s (described s (descs.Func i)) c h
  covers_index s (descs.TypeEq i) c h = covers_type_at s s i c c
  covers_index s descs.Resource c h = covers_item s (described s descs.Resource) c h
  covers_index s (descs.Instance i) c h = covers_item s (described s (descs.Instance i)) c h

  pub covers_described : (s : Space) (d : ExternDesc) → Covers T s → HasItem T (described s d) → Covers T (and_described s d)
  covers_described s d c h = covers_next (and_index s d) _ (covers_index s d c h)

  -- ---- types

  covers_resource : (s : Space) (d : TypeDef) → Covers T s → Covers T (and_resource s d)
  covers_resource s (defs.Resource destructor) c = like s (and_resource s (defs.Resource destructor)) c refl refl refl refl c.imports c.exports
  covers_resource s _ c = c

  pub covers_type_export : (s : Space) (name : Name) (d : ExternDesc) → Covers T s → HasItem T (described s d) → Covers T (and_type_export s name d)
  covers_type_export s name d c h =
      let before = covers_described s d c h in
      like (and_described s d) (and_type_export s name d) before refl refl refl refl before.imports (and_entry-has T s.exports name (described s d) c.exports h)

  pub covers_declared : (around : List Space) (s : Space) (d : Declaration) → Covers T s → CoversEach T around → HasDeclared T s d → Covers T (after_declaration around s d)
  covers_declared around s (ATypeDef d) c each h =
      covers_depth _ _ (covers_resource (and_type s (entry_of (kind_of s d))) d (covers_type s (entry_of (kind_of s d)) c h))
  covers_declared around s (AnInstanceType ds) c each h = absurd h
  covers_declared around s (ATypeAlias a) c each h = covers_type_alias around s a c each
  covers_declared around s (ATypeExport name desc) c each h = covers_type_export s name desc c h

  -- ---- canonical functions, imports and exports

  pub covers_canon : (s : Space) (d : Canon) → Covers T s → Covers T (and_canon s d)
  covers_canon s (canons.Lift func options ty) c = covers_func s (func_in (kind_at s ty)) c (func_in_has s ty c)
  covers_canon s (canons.Lower func options) c = covers_core_item s (core_items.Func (lowered_at (slice_get s.functions func))) c
  covers_canon s (canons.ResourceNew ty) c = covers_core_item s (core_items.Func takes_and_gives) c
  covers_canon s (canons.ResourceDrop ty) c = covers_core_item s (core_items.Func takes_one) c
  covers_canon s (canons.ResourceRep ty) c = covers_core_item s (core_items.Func takes_and_gives) c

  pub covers_import : (s : Space) (i : ComponentImport) → Covers T s → HasItem T (described s i.desc) → Covers T (and_import s i)
  covers_import s i c h =
      let before = covers_described s i.desc c h in
      like (and_described s i.desc) (and_import s i) before refl refl refl refl (and_entry-has T s.imports i.name (described s i.desc) c.imports h) before.exports

  covers_again : (s : Space) (sort : Sort) (i : ℕ) → Covers T s → Covers T (and_again s sort i)
  covers_again s sorts.Type i c = covers_type_at s s i c c
  covers_again s sorts.Func i c = covers_some_item s (item_at s sorts.Func i) c (item_at_has s sorts.Func i c)
  covers_again s sorts.Instance i c = covers_some_item s (item_at s sorts.Instance i) c (item_at_has s sorts.Instance i c)

  covers_export_index : (s : Space) (e : ComponentExport) (o : Option ExternDesc) → Covers T s → HasStated T s o → Covers T (and_export_index s e o)
  covers_export_index s e None c h = covers_again s e.sort e.index c
  covers_export_index s e (Some desc) c h = covers_described s desc c h

  stated-has : (s : Space) (e : ComponentExport) (o : Option ExternDesc) → Covers T s → HasStated T s o → HasSome T (elim o [ None ↦ item_at s e.sort e.index | Some desc ↦ Some (described s desc) ])
  stated-has s e None c h = item_at_has s e.sort e.index c
  stated-has s e (Some desc) c h = h

  pub exported_has : (s : Space) (e : ComponentExport) → Covers T s → HasStated T s e.desc → HasSome T (exported s e)
  exported_has s e c h = stated-has s e e.desc c h

  some_entry-has : (es : Entries) (name : Name) (o : Option Item) → HasEntries T es → HasSome T o → HasEntries T (and_some_entry es name o)
  some_entry-has es name None h k = h
  some_entry-has es name (Some item) h k = and_entry-has T es name item h k

  pub covers_export : (s : Space) (e : ComponentExport) → Covers T s → HasStated T s e.desc → Covers T (and_export s e)
  covers_export s e c h =
      let before = covers_export_index s e e.desc c h in
      like (and_export_index s e e.desc) (and_export s e) before refl refl refl refl before.imports (some_entry-has s.exports e.name (exported s e) c.exports (exported_has s e c h))

  -- ---- all definitions

  pub covers_after : (around : List Space) (s : Space) (d : Definition) → Covers T s → CoversEach T around → HasNew T s d → Covers T (after around s d)
  covers_after around s (ACoreInstance i) c each h = like s (after around s (ACoreInstance i)) c refl refl refl refl c.imports c.exports
  covers_after around s (AnInstance i) c each h = covers_made s i c h
  covers_after around s (AnAlias a) c each h = covers_alias around s a c each
  covers_after around s (AType d) c each h = covers_declared around s d c each h
  covers_after around s (ACanon d) c each h = covers_canon s d c
  covers_after around s (AnImport i) c each h = covers_import s i c h
  covers_after around s (AnExport e) c each h = covers_export s e c h

-- ---- where the table grew

module _ (T U : Types) where
  nested_grew : (n : NestedComponent) → Grew T U → HasNested T n → HasNested U n
  nested_grew n g h = record { imports = entries-grew T U n.signature.imports g h.imports; exports = entries-grew T U n.signature.exports g h.exports }

  pub covers_grew : (s : Space) → Grew T U → Covers T s → Covers U s
  covers_grew s g c = record {
    sound = g.sound c.sound;
    functions = All-weaker (HasFunc T) (HasFunc U) (λ ty h. func-grew T U ty g h) s.functions c.functions;
    types = All-weaker (λ (e : TypeEntry). HasKind T e.kind) (λ (e : TypeEntry). HasKind U e.kind) (λ e h. kind-grew T U e.kind g h) s.types c.types;
    instances = All-weaker (HasEntries T) (HasEntries U) (λ es h. entries-grew T U es g h) s.instances c.instances;
    components = All-weaker (HasNested T) (HasNested U) (λ n h. nested_grew n g h) s.components c.components;
    imports = entries-grew T U s.imports g c.imports;
    exports = entries-grew T U s.exports g c.exports;
  }

  pub each_grew : (spaces : List Space) → Grew T U → CoversEach T spaces → CoversEach U spaces
  each_grew [] g c = c
  each_grew (s ∷ around) g c = (covers_grew s g c.0, each_grew around g c.1)
