-- The formats of a module's items (WebAssembly Core 2.0, section 5.5). Each literal byte is a tag; the kind of a segment is one byte.
use Rattle.std.specs.Prelude.{ℕ, Bool, false, nat_lt, ◌==◌, List, [], ◌∷◌, Option, None}
use Rattle.virt_base.specs.declared.core_type.CoreType.{CoreType}
use Rattle.virt_base.specs.declared.core_type.CoreType.TheVariants.{I32}
use Rattle.wasm_format.specs.Format.{Format, choose, lacking, tagged, both, image, behind, vec, u32_format, sized, anything, name}
use Rattle.wasm_ast.specs.declared.instr.RefType.{RefType}
use Rattle.wasm_ast.specs.declared.instr.RefType.TheVariants as refs
use Rattle.wasm_ast.specs.declared.instr.Instr.{Instr}
use Rattle.wasm_ast.specs.declared.module.Limits.{Limits}
use Rattle.wasm_ast.specs.declared.module.TableType.{TableType}
use Rattle.wasm_ast.specs.declared.module.GlobalType.{GlobalType}
use Rattle.wasm_ast.specs.declared.module.ImportItem.{ImportItem}
use Rattle.wasm_ast.specs.declared.module.ImportItem.TheVariants as imports
use Rattle.wasm_ast.specs.declared.module.Import.{Import}
use Rattle.wasm_ast.specs.declared.module.Global.{Global}
use Rattle.wasm_ast.specs.declared.module.ExportItem.{ExportItem}
use Rattle.wasm_ast.specs.declared.module.ExportItem.TheVariants as exports
use Rattle.wasm_ast.specs.declared.module.Export.{Export}
use Rattle.wasm_ast.specs.declared.module.Elements.{Elements}
use Rattle.wasm_ast.specs.declared.module.Elements.TheVariants.{ActiveFuncs, PassiveFuncs, ActiveFuncsAt, DeclaredFuncs, ActiveExprs, PassiveExprs, ActiveExprsAt, DeclaredExprs}
use Rattle.wasm_ast.specs.declared.module.LocalRun.{LocalRun}
use Rattle.wasm_ast.specs.declared.module.Body.{Body}
use Rattle.wasm_ast.specs.declared.module.Data.{Data}
use Rattle.wasm_ast.specs.declared.module.Data.TheVariants.{Active, Passive, ActiveAt}
use Rattle.wasm_ast.specs.Types.{core_type, ref_type, limits, table_type, global_type}
use Rattle.wasm_ast.specs.Expressions.{expr}

-- ---- imports and exports

abbrev pub import_tag : ImportItem → ℕ
import_tag (imports.Func n) = 0
import_tag (imports.Table t) = 1
import_tag (imports.Memory l) = 2
import_tag (imports.Global g) = 3

abbrev pub no_limits : Limits
no_limits = record { min = 0; max = None }

abbrev pub func_in : ImportItem → ℕ
func_in (imports.Func n) = n
func_in _ = 0

abbrev pub table_type_in : ImportItem → TableType
table_type_in (imports.Table t) = t
table_type_in _ = record { element = refs.Func; limits = no_limits }

abbrev pub limits_in : ImportItem → Limits
limits_in (imports.Memory l) = l
limits_in _ = no_limits

abbrev pub global_in : ImportItem → GlobalType
global_in (imports.Global g) = g
global_in _ = record { value = I32; variable = false }

unfoldable pub import_item : Format ImportItem
import_item = tagged import_tag (λ b.
    choose (b == 0) (image imports.Func func_in u32_format) (
    choose (b == 1) (image imports.Table table_type_in table_type) (
    choose (b == 2) (image imports.Memory limits_in limits) (
    choose (b == 3) (image imports.Global global_in global_type)
    (lacking b)))))

unfoldable pub import : Format Import
import = image (λ p. record { «module» = p.0; name = p.1.0; item = p.1.1 }) (λ i. (i.module, (i.name, i.item))) (both name (both name import_item))

abbrev pub export_tag : ExportItem → ℕ
export_tag (exports.Func n) = 0
export_tag (exports.Table n) = 1
export_tag (exports.Memory n) = 2
export_tag (exports.Global n) = 3

abbrev pub exported : ExportItem → ℕ
exported (exports.Func n) = n
exported (exports.Table n) = n
exported (exports.Memory n) = n
exported (exports.Global n) = n

unfoldable pub export_item : Format ExportItem
export_item = tagged export_tag (λ b.
    choose (b == 0) (image exports.Func exported u32_format) (
    choose (b == 1) (image exports.Table exported u32_format) (
    choose (b == 2) (image exports.Memory exported u32_format) (
    choose (b == 3) (image exports.Global exported u32_format)
    (lacking b)))))

unfoldable pub export : Format Export
export = image (λ p. record { name = p.0; item = p.1 }) (λ e. (e.name, e.item)) (both name export_item)

-- ---- globals, bodies and segments

unfoldable pub global : Format Global
global = image (λ p. record { ty = p.0; init = p.1 }) (λ g. (g.ty, g.init)) (both global_type expr)

unfoldable pub local_run : Format LocalRun
local_run = image (λ p. record { count = p.0; ty = p.1 }) (λ r. (r.count, r.ty)) (both u32_format core_type)

unfoldable pub body : Format Body
body = image (λ p. record { locals = p.0; code = p.1 }) (λ b. (b.locals, b.code)) (both (vec local_run) expr)

abbrev pub elements_tag : Elements → ℕ
elements_tag (ActiveFuncs o fs) = 0
elements_tag (PassiveFuncs fs) = 1
elements_tag (ActiveFuncsAt t o fs) = 2
elements_tag (DeclaredFuncs fs) = 3
elements_tag (ActiveExprs o es) = 4
elements_tag (PassiveExprs ty es) = 5
elements_tag (ActiveExprsAt t o ty es) = 6
elements_tag (DeclaredExprs ty es) = 7

abbrev pub table_of : Elements → ℕ
table_of (ActiveFuncsAt t o fs) = t
table_of (ActiveExprsAt t o ty es) = t
table_of _ = 0

abbrev pub offset_of : Elements → List Instr
offset_of (ActiveFuncs o fs) = o
offset_of (ActiveFuncsAt t o fs) = o
offset_of (ActiveExprs o es) = o
offset_of (ActiveExprsAt t o ty es) = o
offset_of _ = []

abbrev pub funcs_of : Elements → List ℕ
funcs_of (ActiveFuncs o fs) = fs
funcs_of (PassiveFuncs fs) = fs
funcs_of (ActiveFuncsAt t o fs) = fs
funcs_of (DeclaredFuncs fs) = fs
funcs_of _ = []

abbrev pub type_of : Elements → RefType
type_of (PassiveExprs ty es) = ty
type_of (ActiveExprsAt t o ty es) = ty
type_of (DeclaredExprs ty es) = ty
type_of _ = refs.Func

abbrev pub exprs_of : Elements → List (List Instr)
exprs_of (ActiveExprs o es) = es
exprs_of (PassiveExprs ty es) = es
exprs_of (ActiveExprsAt t o ty es) = es
exprs_of (DeclaredExprs ty es) = es
exprs_of _ = []

-- functions after the kind of element that only they have
unfoldable pub kind_and_funcs : Format (List ℕ)
kind_and_funcs = behind (0 ∷ []) (vec u32_format)

-- kinds 0 to 3: functions by index
unfoldable pub low_elements : ℕ → Format Elements
low_elements b =
    choose (b == 0) (image (λ p. ActiveFuncs p.0 p.1) (λ e. (offset_of e, funcs_of e)) (both expr (vec u32_format))) (
    choose (b == 1) (image PassiveFuncs funcs_of kind_and_funcs) (
    choose (b == 2) (image (λ p. ActiveFuncsAt p.0 p.1.0 p.1.1) (λ e. (table_of e, (offset_of e, funcs_of e))) (both u32_format (both expr kind_and_funcs))) (
    choose (b == 3) (image DeclaredFuncs funcs_of kind_and_funcs)
    (lacking b))))

-- kinds 4 to 7: references by expression
unfoldable pub high_elements : ℕ → Format Elements
high_elements b =
    choose (b == 4) (image (λ p. ActiveExprs p.0 p.1) (λ e. (offset_of e, exprs_of e)) (both expr (vec expr))) (
    choose (b == 5) (image (λ p. PassiveExprs p.0 p.1) (λ e. (type_of e, exprs_of e)) (both ref_type (vec expr))) (
    choose (b == 6) (image (λ p. ActiveExprsAt p.0 p.1.0 p.1.1.0 p.1.1.1) (λ e. (table_of e, (offset_of e, (type_of e, exprs_of e)))) (both u32_format (both expr (both ref_type (vec expr))))) (
    choose (b == 7) (image (λ p. DeclaredExprs p.0 p.1) (λ e. (type_of e, exprs_of e)) (both ref_type (vec expr)))
    (lacking b))))

unfoldable pub elements : Format Elements
elements = tagged elements_tag (λ b. choose (nat_lt b 4) (low_elements b) (high_elements b))

abbrev pub data_tag : Data → ℕ
data_tag (Active o bs) = 0
data_tag (Passive bs) = 1
data_tag (ActiveAt m o bs) = 2

abbrev pub memory_of : Data → ℕ
memory_of (ActiveAt m o bs) = m
memory_of _ = 0

abbrev pub place_of : Data → List Instr
place_of (Active o bs) = o
place_of (ActiveAt m o bs) = o
place_of _ = []

abbrev pub bytes_of : Data → List ℕ
bytes_of (Active o bs) = bs
bytes_of (Passive bs) = bs
bytes_of (ActiveAt m o bs) = bs

unfoldable pub segment : Format Data
segment = tagged data_tag (λ b.
    choose (b == 0) (image (λ p. Active p.0 p.1) (λ d. (place_of d, bytes_of d)) (both expr (sized anything))) (
    choose (b == 1) (image Passive bytes_of (sized anything)) (
    choose (b == 2) (image (λ p. ActiveAt p.0 p.1.0 p.1.1) (λ d. (memory_of d, (place_of d, bytes_of d))) (both u32_format (both expr (sized anything))))
    (lacking b))))
