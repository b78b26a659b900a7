-- When such a module is valid.
use Rattle.std.specs.Prelude.{◌≡◌, ◌≢◌, ℕ, ◌+◌, ◌<◌, ◌≤◌, List, [], ◌∷◌, ◌++◌, Option, Some, None, true, map, length, slice_get, sum_by}
use Rattle.std.specs.List.{All}
use Rattle.virt_base.specs.declared.core_type.CoreType.TheVariants.{I32}
use Rattle.wasm_ast.specs.declared.instr.Instr.{Instr}
use Rattle.wasm_ast.specs.declared.instr.Instr.TheVariants.{Plain, End}
use Rattle.wasm_ast.specs.declared.instr.Op.TheVariants.{I32Const}
use Rattle.wasm_ast.specs.declared.module.CoreFunc.{CoreFunc}
use Rattle.wasm_ast.specs.declared.module.Limits.{Limits}
use Rattle.wasm_ast.specs.declared.module.LocalRun.{LocalRun}
use Rattle.wasm_ast.specs.declared.module.Global.{Global}
use Rattle.wasm_ast.specs.declared.module.Import.{Import}
use Rattle.wasm_ast.specs.declared.module.ImportItem.{ImportItem}
use Rattle.wasm_ast.specs.declared.module.ImportItem.TheVariants as imported
use Rattle.wasm_ast.specs.declared.module.Export.{Export}
use Rattle.wasm_ast.specs.declared.module.ExportItem.{ExportItem}
use Rattle.wasm_ast.specs.declared.module.ExportItem.TheVariants as exported
use Rattle.wasm_ast.specs.declared.module.Data.{Data}
use Rattle.wasm_ast.specs.declared.module.Data.TheVariants as data_of
use Rattle.wasm_ast.specs.declared.module.Body.{Body}
use Rattle.core_body.specs.Context.{Context}
use Rattle.core_body.specs.Locals.{spread}
use Rattle.core_body.specs.Views.{in_body}
use Rattle.core_validate.specs.Spaces.{imported_functions, imported_memories, context}
use Rattle.core_validate.specs.Validity.{PartHolds, IsValidModule}
use Rattle.adapter_transfer.specs.declared.module.Defined.{Defined}
use Rattle.adapter_transfer.specs.declared.module.Parts.{Parts}
use Rattle.adapter_transfer.specs.Module.{module_of}

-- at most 4,096 pages at the start, and no maximum or the same number
abbrev pub IsMost : ℕ → Option ℕ → Type 0
IsMost least None = Unit {0}
IsMost least (Some most) = most ≡ least

abbrev pub AreLimits : Limits → Type 0
AreLimits l = (l.min ≤ 4096) × IsMost l.min l.max

-- what is imported: functions of one of that many types, and memories
abbrev pub ImportFits : ℕ → ImportItem → Type 0
ImportFits types (imported.Func n) = n < types
ImportFits types (imported.Memory l) = AreLimits l
ImportFits types other = ⊥

-- an i32 as a constant expression
abbrev pub IsConstant : List Instr → Type 0
IsConstant code = (v : _) × (code ≡ Plain (I32Const v) ∷ End ∷ [])

abbrev pub GlobalFits : Global → Type 0
GlobalFits g = (g.ty.value ≡ I32) × IsConstant g.init

abbrev pub SegmentFits : Data → Type 0
SegmentFits (data_of.Active offset bytes) = IsConstant offset
SegmentFits other = ⊥

-- an export in front of those of the functions is one of the memory
abbrev pub ExportFits : ℕ → ExportItem → Type 0
ExportFits memories (exported.Memory n) = n < memories
ExportFits memories other = ⊥

-- no two of these names are one
abbrev pub AreDistinct : List (List ℕ) → Type 0
AreDistinct [] = Unit {0}
AreDistinct (n ∷ ns) = All (λ m. n ≢ m) ns × AreDistinct ns

-- a body with few locals and valid code, in a context without locals
pub record BodyFits (c : Context) (ty : CoreFunc) (b : Body) : Type 0 where
  pub few : sum_by (λ (r : LocalRun). r.count) b.locals ≤ 50000
  pub valid : (rule : ℕ) → PartHolds rule (record { context = in_body c (ty.params ++ spread b.locals) ty.results; in_body = true; code = b.code })

abbrev pub FunctionFits : Context → Defined → Type 0
FunctionFits c d = (ty : CoreFunc) × (slice_get c.types d.ty ≡ Some ty) × BodyFits c ty d.body

abbrev pub names_of : List Export → List (List ℕ)
names_of es = map (λ (e : Export). e.name) es

-- the parts and the functions fit each other
pub record Fits (p : Parts) (ds : List Defined) : Type 0 where
  pub imports : All (λ (i : Import). ImportFits (length p.types) i.item) p.imports
  pub imported : length (imported_functions p.imports) ≡ p.imported
  pub single : length (imported_memories p.imports) + length p.memories ≤ 1
  pub memories : All AreLimits p.memories
  pub globals : All GlobalFits p.globals
  pub exports : All (λ (e : Export). ExportFits (length (imported_memories p.imports) + length p.memories) e.item) p.exports
  pub names : AreDistinct (names_of (module_of p ds).exports)
  pub functions : All (FunctionFits (context (module_of p ds))) ds
  pub segments : All SegmentFits p.segments
  pub hold : 0 < length p.segments → 0 < length p.memories

abbrev pub ModulesAreValid : Type 0
ModulesAreValid = (p : Parts) (ds : List Defined) → Fits p ds → IsValidModule (module_of p ds)
