-- The formats of the items of a component's sections of instances, aliases and exports (Component Model, Binary.md).
use Rattle.std.specs.Prelude.{ℕ, Bool, List, [], ◌∷◌, ◌==◌, Option, Some, None, unwrap_or}
use Rattle.wasm_format.specs.Format.{Format, choose, lacking, tagged, value, both, image, behind, vec, u32_format, name}
use Rattle.wasm_ast.specs.declared.component.Sort.{Sort}
use Rattle.wasm_ast.specs.declared.component.Sort.TheVariants as sorts
use Rattle.wasm_ast.specs.declared.component.CoreSort.{CoreSort}
use Rattle.wasm_ast.specs.declared.component.CoreSort.TheVariants as core_sorts
use Rattle.wasm_ast.specs.declared.component.OuterSort.{OuterSort}
use Rattle.wasm_ast.specs.declared.component.OuterSort.TheVariants as outer_sorts
use Rattle.wasm_ast.specs.declared.component.NamedItem.{NamedItem}
use Rattle.wasm_ast.specs.declared.component.Instance.{Instance}
use Rattle.wasm_ast.specs.declared.component.Instance.TheVariants as instances
use Rattle.wasm_ast.specs.declared.component.Alias.{Alias}
use Rattle.wasm_ast.specs.declared.component.Alias.TheVariants as aliases
use Rattle.wasm_ast.specs.declared.component.ExternDesc.{ExternDesc}
use Rattle.wasm_ast.specs.declared.component.ExternDesc.TheVariants as descs
use Rattle.wasm_ast.specs.declared.component.ComponentExport.{ComponentExport}

-- ---- sorts and names

abbrev pub sort_tag : Sort → ℕ
sort_tag sorts.Func = 1
sort_tag sorts.Type = 3
sort_tag sorts.Instance = 5

unfoldable pub sort : Format Sort
sort = tagged sort_tag (λ b.
    choose (b == 1) (value sorts.Func) (
    choose (b == 3) (value sorts.Type) (
    choose (b == 5) (value sorts.Instance)
    (lacking b))))

-- 00 or 01, which are read alike, and a name; 00 is written
unfoldable pub extern_name : Format (List ℕ)
extern_name = tagged (λ n. 0) (λ b. choose (b == 0) name (choose (b == 1) name (lacking b)))

-- ---- instances

abbrev pub named_item_of : List ℕ × (Sort × ℕ) → NamedItem
named_item_of p = record { name = p.0; sort = p.1.0; index = p.1.1 }

abbrev pub parts_of_named_item : NamedItem → List ℕ × (Sort × ℕ)
parts_of_named_item i = (i.name, (i.sort, i.index))

-- what meets an import of a component
unfoldable pub argument : Format NamedItem
argument = image named_item_of parts_of_named_item (both name (both sort u32_format))

-- an item of an instance that is written out
unfoldable pub inline_export : Format NamedItem
inline_export = image named_item_of parts_of_named_item (both extern_name (both sort u32_format))

abbrev pub instance_tag : Instance → ℕ
instance_tag (instances.Instantiate component args) = 0
instance_tag (instances.Inline exports) = 1

abbrev pub instantiated : Instance → ℕ × List NamedItem
instantiated (instances.Instantiate component args) = (component, args)
instantiated (instances.Inline exports) = (0, [])

abbrev pub inline_of : Instance → List NamedItem
inline_of (instances.Inline exports) = exports
inline_of (instances.Instantiate component args) = []

unfoldable pub instance : Format Instance
instance = tagged instance_tag (λ b.
    choose (b == 0) (image (λ p. instances.Instantiate p.0 p.1) instantiated (both u32_format (vec argument))) (
    choose (b == 1) (image instances.Inline inline_of (vec inline_export))
    (lacking b)))

-- ---- aliases: a sort, and a target that the sort allows

abbrev pub export_alias : Sort → ℕ × List ℕ → Alias
export_alias s p = aliases.Export s p.0 p.1

abbrev pub core_alias : CoreSort → ℕ × List ℕ → Alias
core_alias s p = aliases.CoreExport s p.0 p.1

abbrev pub outer_alias : OuterSort → ℕ × ℕ → Alias
outer_alias s p = aliases.Outer s p.0 p.1

abbrev pub export_of : Alias → ℕ × List ℕ
export_of (aliases.Export _ i n) = (i, n)
export_of (aliases.CoreExport _ i n) = (i, n)
export_of (aliases.Outer _ _ _) = (0, [])

abbrev pub outer_of : Alias → ℕ × ℕ
outer_of (aliases.Outer _ count index) = (count, index)
outer_of (aliases.Export _ _ _) = (0, 0)
outer_of (aliases.CoreExport _ _ _) = (0, 0)

-- an instance and a name of its exports
abbrev pub from_instance : Sort → Format Alias
from_instance s = image (export_alias s) export_of (both u32_format name)

abbrev pub from_core_instance : CoreSort → Format Alias
from_core_instance s = image (core_alias s) export_of (both u32_format name)

-- how many scopes further out, and an index there
abbrev pub from_outside : OuterSort → Format Alias
from_outside s = image (outer_alias s) outer_of (both u32_format u32_format)

abbrev pub core_sort_tag : CoreSort → ℕ
core_sort_tag core_sorts.Func = 0
core_sort_tag core_sorts.Table = 1
core_sort_tag core_sorts.Memory = 2
core_sort_tag core_sorts.Global = 3

abbrev pub outer_tag : OuterSort → ℕ
outer_tag outer_sorts.CoreModule = 0
outer_tag outer_sorts.Type = 3
outer_tag outer_sorts.Component = 4

abbrev pub alias_tag : Alias → ℕ
alias_tag (aliases.Export s _ _) = sort_tag s
alias_tag (aliases.CoreExport _ _ _) = 0
alias_tag (aliases.Outer s _ _) = outer_tag s

-- the byte after 00: a core sort, or 11 for a core module
abbrev pub core_alias_tag : Alias → ℕ
core_alias_tag (aliases.CoreExport s _ _) = core_sort_tag s
core_alias_tag (aliases.Export _ _ _) = 0
core_alias_tag (aliases.Outer _ _ _) = 0x11

-- the target of a type: an export, or an outer scope
abbrev pub type_target : Alias → ℕ
type_target (aliases.Export _ _ _) = 0
type_target (aliases.CoreExport _ _ _) = 1
type_target (aliases.Outer _ _ _) = 2

unfoldable pub core_alias_format : Format Alias
core_alias_format = tagged core_alias_tag (λ b.
    choose (b == 0) (behind (1 ∷ []) (from_core_instance core_sorts.Func)) (
    choose (b == 1) (behind (1 ∷ []) (from_core_instance core_sorts.Table)) (
    choose (b == 2) (behind (1 ∷ []) (from_core_instance core_sorts.Memory)) (
    choose (b == 3) (behind (1 ∷ []) (from_core_instance core_sorts.Global)) (
    choose (b == 0x11) (behind (2 ∷ []) (from_outside outer_sorts.CoreModule))
    (lacking b))))))

unfoldable pub type_alias_format : Format Alias
type_alias_format = tagged type_target (λ b.
    choose (b == 0) (from_instance sorts.Type) (
    choose (b == 2) (from_outside outer_sorts.Type)
    (lacking b)))

unfoldable pub alias : Format Alias
alias = tagged alias_tag (λ b.
    choose (b == 0) core_alias_format (
    choose (b == 1) (behind (0 ∷ []) (from_instance sorts.Func)) (
    choose (b == 3) type_alias_format (
    choose (b == 4) (behind (2 ∷ []) (from_outside outer_sorts.Component)) (
    choose (b == 5) (behind (0 ∷ []) (from_instance sorts.Instance))
    (lacking b))))))

-- ---- exports

abbrev pub desc_tag : ExternDesc → ℕ
desc_tag (descs.Func ty) = 1
desc_tag (descs.TypeEq ty) = 3
desc_tag descs.Resource = 3
desc_tag (descs.Instance ty) = 5

abbrev pub bound_tag : ExternDesc → ℕ
bound_tag (descs.TypeEq ty) = 0
bound_tag descs.Resource = 1
bound_tag (descs.Func ty) = 0
bound_tag (descs.Instance ty) = 0

abbrev pub type_of_desc : ExternDesc → ℕ
type_of_desc (descs.Func ty) = ty
type_of_desc (descs.TypeEq ty) = ty
type_of_desc descs.Resource = 0
type_of_desc (descs.Instance ty) = ty

-- a type that equals another, or a fresh resource
unfoldable pub type_bound : Format ExternDesc
type_bound = tagged bound_tag (λ b.
    choose (b == 0) (image descs.TypeEq type_of_desc u32_format) (
    choose (b == 1) (value descs.Resource)
    (lacking b)))

unfoldable pub extern_desc : Format ExternDesc
extern_desc = tagged desc_tag (λ b.
    choose (b == 1) (image descs.Func type_of_desc u32_format) (
    choose (b == 3) type_bound (
    choose (b == 5) (image descs.Instance type_of_desc u32_format)
    (lacking b))))

abbrev pub option_tag : {A : Type 0} → Option A → ℕ
option_tag None = 0
option_tag (Some a) = 1

abbrev pub some_desc : Option ExternDesc → ExternDesc
some_desc None = descs.Resource
some_desc (Some d) = d

unfoldable pub stated_desc : Format (Option ExternDesc)
stated_desc = tagged option_tag (λ b.
    choose (b == 0) (value None) (
    choose (b == 1) (image Some some_desc extern_desc)
    (lacking b)))

abbrev pub export_from : List ℕ × (Sort × (ℕ × Option ExternDesc)) → ComponentExport
export_from p = record { name = p.0; sort = p.1.0; index = p.1.1.0; desc = p.1.1.1 }

abbrev pub parts_of_export : ComponentExport → List ℕ × (Sort × (ℕ × Option ExternDesc))
parts_of_export e = (e.name, (e.sort, (e.index, e.desc)))

unfoldable pub component_export : Format ComponentExport
component_export = image export_from parts_of_export (both extern_name (both sort (both u32_format stated_desc)))
