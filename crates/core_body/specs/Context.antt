-- What code may name (WebAssembly Core 2.0, section 3.1.1).
use Rattle.std.specs.Prelude.{ℕ, Bool, Option, Some, List, [], ◌∷◌, slice_get, unwrap_or}
use Rattle.std.specs.Option.{option_and_then}
use Rattle.virt_base.specs.declared.core_type.CoreType.{CoreType}
use Rattle.wasm_ast.specs.declared.module.CoreFunc.{CoreFunc}
use Rattle.wasm_ast.specs.declared.module.TableType.{TableType}
use Rattle.wasm_ast.specs.declared.module.GlobalType.{GlobalType}
use Rattle.wasm_ast.specs.declared.instr.RefType.{RefType}
use Rattle.wasm_ast.specs.declared.instr.BlockType.{BlockType}
use Rattle.wasm_ast.specs.declared.instr.BlockType.TheVariants.{Empty, Value, Index}

pub record Context : Type 0 where
  pub types : List CoreFunc
  -- the index of each function's type, imported functions first
  pub functions : List ℕ
  pub tables : List TableType
  -- how many memories there are
  pub memories : ℕ
  pub globals : List GlobalType
  -- how many of the globals are imported: these stand first
  pub imported_globals : ℕ
  -- the type of each element segment
  pub elements : List RefType
  pub data_count : Option ℕ
  -- of each function, whether a body's ref.func may name it
  pub refs : List Bool
  -- parameters, then declared locals
  pub locals : List CoreType
  -- what `return` takes; none in a constant expression, which has no function around it
  pub results : Option (List CoreType)
  -- what the code as a whole has to leave: a body's results, or the one value of a constant expression
  pub due : List CoreType

abbrev pub arrow : List CoreType → List CoreType → CoreFunc
arrow params results = record { params = params; results = results }

abbrev pub function_type : Context → ℕ → Option CoreFunc
function_type c n = option_and_then (λ t. slice_get c.types t) (slice_get c.functions n)

-- the type at an index, if there is one; else that which takes and leaves nothing
abbrev pub type_or_empty : List CoreFunc → Option ℕ → CoreFunc
type_or_empty types n = unwrap_or (option_and_then (λ t. slice_get types t) n) (arrow [] [])

-- block types (section 3.2.2)
abbrev pub block_type : Context → BlockType → Option CoreFunc
block_type c Empty = Some (arrow [] [])
block_type c (Value t) = Some (arrow [] (t ∷ []))
block_type c (Index n) = slice_get c.types n
