-- The formats of core instances (Component Model, Binary.md, "Instance Definitions"). Each literal byte is a tag.
use Rattle.std.specs.Prelude.{ℕ, List, [], ◌∷◌, ◌==◌}
use Rattle.wasm_format.specs.Format.{Format, choose, lacking, tagged, value, both, image, behind, vec, u32_format, name}
use Rattle.wasm_ast.specs.declared.component.CoreSort.{CoreSort}
use Rattle.wasm_ast.specs.declared.component.CoreSort.TheVariants.{Func, Table, Memory, Global}
use Rattle.wasm_ast.specs.declared.component.CoreArg.{CoreArg}
use Rattle.wasm_ast.specs.declared.component.CoreExport.{CoreExport}
use Rattle.wasm_ast.specs.declared.component.CoreInstance.{CoreInstance}
use Rattle.wasm_ast.specs.declared.component.CoreInstance.TheVariants.{Instantiate, Inline}
use Rattle.wasm_ast.specs.ComponentItems.{core_sort_tag}

unfoldable pub core_sort : Format CoreSort
core_sort = tagged core_sort_tag (λ b.
    choose (b == 0) (value Func) (
    choose (b == 1) (value Table) (
    choose (b == 2) (value Memory) (
    choose (b == 3) (value Global)
    (lacking b)))))

-- a name, and the core instance that meets a module's imports of it
unfoldable pub core_arg : Format CoreArg
core_arg = image (λ p. record { name = p.0; instance = p.1 }) (λ a. (a.name, a.instance)) (both name (behind (0x12 ∷ []) u32_format))

abbrev pub core_export_of : List ℕ × (CoreSort × ℕ) → CoreExport
core_export_of p = record { name = p.0; sort = p.1.0; index = p.1.1 }

abbrev pub parts_of_core_export : CoreExport → List ℕ × (CoreSort × ℕ)
parts_of_core_export e = (e.name, (e.sort, e.index))

-- a named item of an instance that is written out
unfoldable pub core_export : Format CoreExport
core_export = image core_export_of parts_of_core_export (both name (both core_sort u32_format))

abbrev pub core_instance_tag : CoreInstance → ℕ
core_instance_tag (Instantiate m args) = 0
core_instance_tag (Inline exports) = 1

abbrev pub instantiated_core : CoreInstance → ℕ × List CoreArg
instantiated_core (Instantiate m args) = (m, args)
instantiated_core (Inline exports) = (0, [])

abbrev pub inline_core : CoreInstance → List CoreExport
inline_core (Inline exports) = exports
inline_core (Instantiate m args) = []

unfoldable pub core_instance : Format CoreInstance
core_instance = tagged core_instance_tag (λ b.
    choose (b == 0) (image (λ p. Instantiate p.0 p.1) instantiated_core (both u32_format (vec core_arg))) (
    choose (b == 1) (image Inline inline_core (vec core_export))
    (lacking b)))
