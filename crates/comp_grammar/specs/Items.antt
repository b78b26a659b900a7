-- The formats of canonical functions and imports (Component Model, Binary.md, "Canonical Definitions", "Import and Export Definitions").
use Rattle.std.specs.Prelude.{ℕ, List, [], ◌∷◌, ◌==◌}
use Rattle.wasm_format.specs.Format.{Format, choose, lacking, tagged, value, both, image, behind, vec, u32_format}
use Rattle.wasm_ast.specs.declared.component.CanonOption.{CanonOption}
use Rattle.wasm_ast.specs.declared.component.CanonOption.TheVariants as options
use Rattle.wasm_ast.specs.declared.component.Canon.{Canon}
use Rattle.wasm_ast.specs.declared.component.Canon.TheVariants.{Lift, Lower, ResourceNew, ResourceDrop, ResourceRep}
use Rattle.wasm_ast.specs.declared.component.ComponentImport.{ComponentImport}
use Rattle.wasm_ast.specs.ComponentItems.{extern_name, extern_desc}

-- ---- canonical functions

abbrev pub option_tag : CanonOption → ℕ
option_tag options.Utf8 = 0
option_tag (options.Memory n) = 3
option_tag (options.Realloc f) = 4
option_tag (options.PostReturn f) = 5

abbrev pub index_of_option : CanonOption → ℕ
index_of_option options.Utf8 = 0
index_of_option (options.Memory n) = n
index_of_option (options.Realloc f) = f
index_of_option (options.PostReturn f) = f

unfoldable pub canon_option : Format CanonOption
canon_option = tagged option_tag (λ b.
    choose (b == 0) (value options.Utf8) (
    choose (b == 3) (image options.Memory index_of_option u32_format) (
    choose (b == 4) (image options.Realloc index_of_option u32_format) (
    choose (b == 5) (image options.PostReturn index_of_option u32_format)
    (lacking b)))))

abbrev pub canon_tag : Canon → ℕ
canon_tag (Lift f options ty) = 0
canon_tag (Lower f options) = 1
canon_tag (ResourceNew ty) = 2
canon_tag (ResourceDrop ty) = 3
canon_tag (ResourceRep ty) = 4

abbrev pub lifted : Canon → ℕ × (List CanonOption × ℕ)
lifted (Lift f options ty) = (f, (options, ty))
lifted _ = (0, ([], 0))

abbrev pub lowered : Canon → ℕ × List CanonOption
lowered (Lower f options) = (f, options)
lowered _ = (0, [])

abbrev pub type_of_canon : Canon → ℕ
type_of_canon (ResourceNew ty) = ty
type_of_canon (ResourceDrop ty) = ty
type_of_canon (ResourceRep ty) = ty
type_of_canon _ = 0

abbrev pub lift : Format Canon
lift = image (λ p. Lift p.0 p.1.0 p.1.1) lifted (both u32_format (both (vec canon_option) u32_format))

abbrev pub lower : Format Canon
lower = image (λ p. Lower p.0 p.1) lowered (both u32_format (vec canon_option))

unfoldable pub canon : Format Canon
canon = tagged canon_tag (λ b.
    choose (b == 0) (behind (0 ∷ []) lift) (
    choose (b == 1) (behind (0 ∷ []) lower) (
    choose (b == 2) (image ResourceNew type_of_canon u32_format) (
    choose (b == 3) (image ResourceDrop type_of_canon u32_format) (
    choose (b == 4) (image ResourceRep type_of_canon u32_format)
    (lacking b))))))

-- ---- imports

unfoldable pub component_import : Format ComponentImport
component_import = image (λ p. record { name = p.0; desc = p.1 }) (λ i. (i.name, i.desc)) (both extern_name extern_desc)
