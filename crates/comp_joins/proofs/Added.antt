-- Each definition of a component leaves index spaces that name what is known then.
use Rattle.std.proofs.Common.{◌≡◌, inl, inr, ℕ, ◌+◌, ◌<◌, List, [], ◌∷◌, ◌++◌, length, Bool, true, Option, Some, None, refl}
use Rattle.std.specs.Prelude.{slice_get}
use Rattle.std.specs.Option.{option_and_then}
use Rattle.wasm_ast.specs.declared.component.Sort.{Sort}
use Rattle.wasm_ast.specs.declared.component.Sort.TheVariants as sorts
use Rattle.wasm_ast.specs.declared.component.NamedItem.{NamedItem}
use Rattle.wasm_ast.specs.declared.component.OuterSort.{OuterSort}
use Rattle.wasm_ast.specs.declared.component.OuterSort.TheVariants as outer_sorts
use Rattle.wasm_ast.specs.declared.component.ExternDesc.{ExternDesc}
use Rattle.wasm_ast.specs.declared.component.TypeDef.TheVariants as defs
use Rattle.wasm_ast.specs.declared.component.ComponentImport.{ComponentImport}
use Rattle.core_validate.specs.declared.item.ModuleType.{ModuleType}
use Rattle.wit_types.specs.Plain.{Name}
use Rattle.comp_types.specs.Items.{Item, Entries, FuncItem, InstanceItem, KindItem, ResourceKind, look_up}
use Rattle.comp_types.specs.Subtyping.{MeetsImports}
use Rattle.comp_types.specs.Declarations.{Declarations, ATypeDef}
use Rattle.comp_types.specs.Definitions.{AType}
use Rattle.comp_types.specs.GivenResources.{is_among, named_in, renamed, given_by, numbered}
use Rattle.comp_types.specs.Spaces.{Space, TypeEntry, NestedComponent, item_at, and_item, entry_of}
use Rattle.comp_types.specs.Added.{brought, described, new_numbers, and_index, and_import, and_export, and_some_entry, and_some_item, and_some_type, and_some_module, and_outer, and_instantiated, and_instance_type, named_items, opened, instance_type, after_declarations, after}
use Rattle.comp_types.specs.Rules.{is_new_in}
use Rattle.comp_types.specs.Validity.{AreValidDeclarations}
use Rattle.comp_inside.specs.Linked.{Each, IsBrought}
use Rattle.comp_joins.proofs.Names.{each_among, ItemNames, KindNames, AllName}
use Rattle.comp_joins.proofs.Described.{Wider, IfSome, IsOwn, ComponentNames, KnowsAt, Knows, every_get, described_known, described_shown}
use Rattle.comp_joins.proofs.Arguments.{found_names}
use Rattle.comp_joins.proofs.Spaces.{type_more, item_more, entry_more, some_item_more, some_type_more, some_component_more, item_known, named_known, wider_knows, instantiated_known}
use Rattle.comp_joins.proofs.Scopes.{type_in, component_in, Reach}
use Rattle.comp_joins.proofs.Nested.{key_named}
use Rattle.comp_joins.proofs.Declared.{index_more, all_shown, begins, Declaring, instance_type_known, all_declared}

-- ---- where nothing more is known

module _ (b : Bool) (base : ℕ) (P : ℕ → Type 0) where
  pub alias_space : (s : Space) (o : Option Entries) (name : Name) → Knows b base P s → IfSome (AllName P s.next) o → Knows b base P (and_some_item s (option_and_then (look_up name) o))
  alias_space s None name h k = h
  alias_space s (Some entries) name h k = some_item_more P s (look_up name entries) h (found_names P s.next entries name k)

  module_space : (s : Space) (o : Option ModuleType) → Knows b base P s → Knows b base P (and_some_module s o)
  module_space s None h = h
  module_space s (Some m) h = h

  pub outer_space : (s : Space) (sort : OuterSort) (o : Option Space) (i : ℕ) → Knows b base P s → (sort ≡ outer_sorts.Type → IfSome (λ (e : TypeEntry). KindNames P s.next e.kind) (type_in o i)) → IfSome (ComponentNames P s.next) (component_in o i)
      → Knows b base P (and_outer s sort o i)
  outer_space s sort None i h types components = h
  outer_space s outer_sorts.Type (Some scope) i h types components = some_type_more P s (slice_get scope.types i) h (types refl)
  outer_space s outer_sorts.Component (Some scope) i h types components = some_component_more P s (slice_get scope.components i) h components
  outer_space s outer_sorts.CoreModule (Some scope) i h types components = module_space s (slice_get scope.core_modules i) h

  pub instance_type_space : (around : List Space) (s : Space) (ds : Declarations) → AreValidDeclarations (s ∷ around) (opened s) ds → Reach P s.next (s ∷ around) → Knows b base P s → Knows b base P (and_instance_type s (after_declarations (s ∷ around) (opened s) ds))
  instance_type_space around s ds v reach h =
      let inner : Space = after_declarations (s ∷ around) (opened s) ds in
      let k : Declaring P s.next inner = all_declared P s.next h.below (s ∷ around) (opened s) ds v reach (begins P s.next h.below s refl) in
      let w : Wider P P s.next inner.next = record { behind = k.0.start; known = λ r p. p; new = λ r a p. a.1 p } in
      type_more P inner.next s (instance_type inner) (wider_knows P P s.next inner.next s w (λ r p. k.0.below r (inr p)) h) (instance_type_known P s.next h.below inner k)

  -- ---- an export, its type not stated

  exports_more : (n : ℕ) (s : Space) (entries : Entries) → KnowsAt b base P n s → AllName P n entries → KnowsAt b base P n (record s { exports = entries })
  exports_more n s entries h k = record { form = h.form; start = h.start; below = h.below; kinds = h.kinds; funcs = h.funcs; items = h.items; out = k; ins = h.ins; shown = h.shown; nested = h.nested }

  some_entry_more : (n : ℕ) (entries : Entries) (name : Name) (o : Option Item) → AllName P n entries → IfSome (ItemNames P n) o → AllName P n (and_some_entry entries name o)
  some_entry_more n entries name None h k = h
  some_entry_more n entries name (Some item) h k = entry_more P n entries name item h k

  some_item_out : (s : Space) (o : Option Item) (entries : Entries) → Knows b base P s → IfSome (ItemNames P s.next) o → AllName P s.next entries → Knows b base P (record (and_some_item s o) { exports = entries })
  some_item_out s None entries h k out = exports_more s.next s entries h out
  some_item_out s (Some (FuncItem ty)) entries h k out = exports_more s.next (and_item s (FuncItem ty)) entries (item_more P s.next s (FuncItem ty) h k) out
  some_item_out s (Some (InstanceItem es)) entries h k out = exports_more s.next (and_item s (InstanceItem es)) entries (item_more P s.next s (InstanceItem es) h k) out
  some_item_out s (Some (KindItem kind)) entries h k out = exports_more s.next (and_item s (KindItem kind)) entries (item_more P s.next s (KindItem kind) h k) out

  some_type_out : (s : Space) (o : Option TypeEntry) (entries : Entries) → Knows b base P s → IfSome (λ (e : TypeEntry). KindNames P s.next e.kind) o → AllName P s.next entries → Knows b base P (record (and_some_type s o) { exports = entries })
  some_type_out s None entries h k out = exports_more s.next s entries h out
  some_type_out s (Some e) entries h k out = exports_more s.next (and_some_type s (Some e)) entries (type_more P s.next s e h k) out

  pub export_space : (s : Space) (name : Name) (sort : Sort) (i : ℕ) → Knows b base P s → Knows b base P (and_export s (record { name = name; sort = sort; index = i; desc = None }))
  export_space s name sorts.Func i h =
      some_item_out s (item_at s sorts.Func i) (and_some_entry s.exports name (item_at s sorts.Func i)) h (item_known P s sorts.Func i h) (some_entry_more s.next s.exports name (item_at s sorts.Func i) h.out (item_known P s sorts.Func i h))
  export_space s name sorts.Instance i h =
      some_item_out s (item_at s sorts.Instance i) (and_some_entry s.exports name (item_at s sorts.Instance i)) h (item_known P s sorts.Instance i h) (some_entry_more s.next s.exports name (item_at s sorts.Instance i) h.out (item_known P s sorts.Instance i h))
  export_space s name sorts.Type i h =
      some_type_out s (slice_get s.types i) (and_some_entry s.exports name (item_at s sorts.Type i)) h (every_get (λ (e : TypeEntry). KindNames P s.next e.kind) s.types i h.kinds)
      (some_entry_more s.next s.exports name (item_at s sorts.Type i) h.out (item_known P s sorts.Type i h))

-- ---- where more is known: P before, Q after, once the new numbers are

abbrev pub Adds : (b : Bool) (base : ℕ) (P Q : ℕ → Type 0) → Space → Space → List ℕ → Type 0
Adds b base P Q s t numbers = Wider P Q s.next t.next → ((r : ℕ) → Q r → r < t.next) → Each Q numbers → Knows b base P s → Knows b base Q t

module _ (b : Bool) (base : ℕ) (P Q : ℕ → Type 0) where
  pub resource_space : (around : List Space) (s : Space) (destructor : Option ℕ) → Adds b base P Q s (after around s (AType (ATypeDef (defs.Resource destructor)))) (s.next ∷ [])
  resource_space around s destructor w less new h = type_more Q (s.next + 1) s (entry_of (ResourceKind s.next)) (wider_knows P Q s.next (s.next + 1) s w less h) new.0

  pub import_space : (s : Space) (i : ComponentImport) → is_new_in s.imports i.name ≡ true → Adds b base P Q s (and_import s i) (new_numbers (brought s i.desc))
  import_space s i is w less new h =
      let n' : ℕ = s.next + length (brought s i.desc) in
      let before : KnowsAt b base Q n' s = wider_knows P Q s.next n' s w less h in
      let named : ItemNames Q n' (described s i.desc) = described_known P Q s n' i.desc w h new in
      let k : KnowsAt b base Q n' (and_index s i.desc) = index_more Q n' s i.desc before named in
      record {
        form = k.form;
        start = k.start;
        below = k.below;
        kinds = k.kinds;
        funcs = k.funcs;
        items = k.items;
        out = k.out;
        ins = entry_more Q n' s.imports i.name (described s i.desc) before.ins named;
        shown = all_shown s.imports i.name (described s i.desc) s.imported (new_numbers (brought s i.desc)) is h.shown (described_shown P s i.desc h);
        nested = k.nested;
      }

  pub stated_space : (s : Space) (name : Name) (sort : Sort) (i : ℕ) (desc : ExternDesc) → Adds b base P Q s (and_export s (record { name = name; sort = sort; index = i; desc = Some desc })) (new_numbers (brought s desc))
  stated_space s name sort i desc w less new h =
      let n' : ℕ = s.next + length (brought s desc) in
      let before : KnowsAt b base Q n' s = wider_knows P Q s.next n' s w less h in
      let named : ItemNames Q n' (described s desc) = described_known P Q s n' desc w h new in
      let k : KnowsAt b base Q n' (and_index s desc) = index_more Q n' s desc before named in
      record {
        form = k.form;
        start = k.start;
        below = k.below;
        kinds = k.kinds;
        funcs = k.funcs;
        items = k.items;
        out = entry_more Q n' s.exports name (described s desc) before.out named;
        ins = k.ins;
        shown = k.shown;
        nested = k.nested;
      }

  pub instantiated_space : (s : Space) (c : NestedComponent) (args : List NamedItem) → MeetsImports (named_items s args) c.signature.imports → ComponentNames P s.next c → Adds b base P Q s (and_instantiated s (Some c) (named_items s args)) (new_numbers (numbered c.own s.next))
  instantiated_space s c args meets names w less new h =
      let n' : ℕ = s.next + length c.own in
      let out : Entries = renamed (given_by (named_items s args) c.signature.imports ++ numbered c.own s.next) c.signature.exports in
      item_more Q n' s (InstanceItem out) (wider_knows P Q s.next n' s w less h)
      (instantiated_known P Q (IsOwn c) meets.0 c (named_items s args) s.next n' w (named_known P s args h) meets.1 names.0 names.1 new (λ r is. inl is) keys)
    where
      keys : (r : ℕ) → IsBrought (given_by (named_items s args) c.signature.imports) r → IsOwn c r
      keys r given = inr (key_named (λ z. is_among (named_in c.signature.imports) z ≡ true) (named_items s args) c.signature.imports r (each_among (named_in c.signature.imports)) given)
