-- Code whose operands are there: a number of operands before and after each instruction, and the items that it names.
use Rattle.std.specs.Prelude.{ℕ, ◌≡◌, ◌+◌, ◌-◌, ◌<◌, ◌≤◌, ◌==◌, if◌then◌else◌, List, [], ◌∷◌, Option, Some, None, length, slice_get}
use Rattle.wasm_ast.specs.declared.numeric.Numeric.{Numeric}
use Rattle.wasm_ast.specs.Numeric.{numeric}
use Rattle.wasm_ast.specs.declared.instr.BlockType.{BlockType}
use Rattle.wasm_ast.specs.declared.instr.BlockType.TheVariants.{Empty, Value, Index}
use Rattle.wasm_ast.specs.declared.instr.Op.{Op}
use Rattle.wasm_ast.specs.declared.instr.Op.TheVariants as op
use Rattle.wasm_ast.specs.declared.instr.Instr.{Instr}
use Rattle.wasm_ast.specs.declared.instr.Instr.TheVariants.{Plain, I64Const, SelectTyped, Unreachable, Block, Loop, If, Else, End, Br, BrIf, BrTable, Return, Call, CallIndirect}
use Rattle.core_store.specs.Tree.{Seq, Stop, Then, InBlock, InLoop, InIf, tree}
use Rattle.core_store.specs.declared.value.CoreSpaces.{CoreSpaces}
use Rattle.core_store.specs.declared.value.StoreFunc.{StoreFunc}
use Rattle.core_store.specs.declared.value.StoreFunc.TheVariants.{Inside, Outside}
use Rattle.core_store.specs.Config.{type_at, block_params, block_results}
use Rattle.core_store.specs.Eval.{type_of, target}
use Rattle.core_store.specs.Scene.{Scene, spaces_at, results_at}

-- a numeric instruction takes one operand or two
abbrev pub numeric_takes : Option Numeric → ℕ
numeric_takes None = 0
numeric_takes (Some n) = if n.params == 1 then 1 else 2

-- how many operands an instruction takes, and how many it leaves
abbrev pub takes : Op → ℕ
takes op.Nop = 0
takes op.Drop = 1
takes op.Select = 3
takes (op.LocalGet i) = 0
takes (op.LocalSet i) = 1
takes (op.LocalTee i) = 1
takes (op.GlobalGet i) = 0
takes (op.GlobalSet i) = 1
takes (op.TableGet i) = 1
takes (op.TableSet i) = 2
takes (op.Load l m) = 1
takes (op.Store s m) = 2
takes op.MemorySize = 0
takes op.MemoryGrow = 1
takes (op.I32Const n) = 0
takes (op.Numeric code) = numeric_takes (numeric code)
takes (op.RefNull t) = 0
takes op.RefIsNull = 1
takes (op.RefFunc i) = 0
takes (op.MemoryInit i) = 3
takes (op.DataDrop i) = 0
takes op.MemoryCopy = 3
takes op.MemoryFill = 3
takes (op.TableInit s i) = 3
takes (op.ElemDrop i) = 0
takes (op.TableCopy t f) = 3
takes (op.TableGrow i) = 2
takes (op.TableSize i) = 0
takes (op.TableFill i) = 3

abbrev pub gives : Op → ℕ
gives op.Nop = 0
gives op.Drop = 0
gives op.Select = 1
gives (op.LocalGet i) = 1
gives (op.LocalSet i) = 0
gives (op.LocalTee i) = 1
gives (op.GlobalGet i) = 1
gives (op.GlobalSet i) = 0
gives (op.TableGet i) = 1
gives (op.TableSet i) = 0
gives (op.Load l m) = 1
gives (op.Store s m) = 0
gives op.MemorySize = 1
gives op.MemoryGrow = 1
gives (op.I32Const n) = 1
gives (op.Numeric code) = 1
gives (op.RefNull t) = 1
gives op.RefIsNull = 1
gives (op.RefFunc i) = 1
gives (op.MemoryInit i) = 0
gives (op.DataDrop i) = 0
gives op.MemoryCopy = 0
gives op.MemoryFill = 0
gives (op.TableInit s i) = 0
gives (op.ElemDrop i) = 0
gives (op.TableCopy t f) = 0
gives (op.TableGrow i) = 1
gives (op.TableSize i) = 1
gives (op.TableFill i) = 0

-- the index names an item, of which there are that many
abbrev pub Place : ℕ → List ℕ → ℕ → Type 0
Place count space i = (k : ℕ) × (slice_get space i ≡ Some k) × (k < count)

-- what it names is there
abbrev pub Names : Scene → CoreSpaces → ℕ → Op → Type 0
Names w sp locals (op.LocalGet i) = i < locals
Names w sp locals (op.LocalSet i) = i < locals
Names w sp locals (op.LocalTee i) = i < locals
Names w sp locals (op.GlobalGet i) = Place w.globals sp.globals i
Names w sp locals (op.GlobalSet i) = Place w.globals sp.globals i
Names w sp locals (op.TableGet i) = Place w.tables sp.tables i
Names w sp locals (op.TableSet i) = Place w.tables sp.tables i
Names w sp locals (op.TableGrow i) = Place w.tables sp.tables i
Names w sp locals (op.TableSize i) = Place w.tables sp.tables i
Names w sp locals (op.TableFill i) = Place w.tables sp.tables i
Names w sp locals (op.Load l m) = Place w.memories sp.memories 0
Names w sp locals (op.Store s m) = Place w.memories sp.memories 0
Names w sp locals op.MemorySize = Place w.memories sp.memories 0
Names w sp locals op.MemoryGrow = Place w.memories sp.memories 0
Names w sp locals op.MemoryCopy = Place w.memories sp.memories 0
Names w sp locals op.MemoryFill = Place w.memories sp.memories 0
Names w sp locals (op.MemoryInit i) = Place w.memories sp.memories 0 × Place w.segments sp.segments i
Names w sp locals (op.DataDrop i) = Place w.segments sp.segments i
Names w sp locals (op.TableInit s i) = Place w.tables sp.tables i × Place w.elements sp.elements s
Names w sp locals (op.ElemDrop i) = Place w.elements sp.elements i
Names w sp locals (op.TableCopy t f) = Place w.tables sp.tables t × Place w.tables sp.tables f
Names w sp locals (op.RefFunc i) = Place (length w.functions) sp.functions i
Names w sp locals _ = Unit {0}

-- the label's arity is at most this
abbrev pub Reaches : List ℕ → ℕ → ℕ → Type 0
Reaches labels k height = (a : ℕ) × (slice_get labels k ≡ Some a) × (a ≤ height)

abbrev pub params_of : StoreFunc → ℕ
params_of g = length (type_of g).params

abbrev pub results_of : StoreFunc → ℕ
results_of g = length (type_of g).results

-- a function's code: its index spaces, and how many locals and results it has
pub record Frame : Type 0 where
  pub spaces : CoreSpaces
  pub locals : ℕ
  pub results : ℕ

-- a block type that is there
abbrev pub IsBlock : CoreSpaces → BlockType → Type 0
IsBlock sp Empty = Unit {0}
IsBlock sp (Value t) = Unit {0}
IsBlock sp (Index n) = n < length sp.types

-- an instruction on h operands, after which Rest holds
abbrev pub FineOne : Scene → Frame → List ℕ → ℕ → Instr → (ℕ → Type 0) → Type 0
FineOne w fr labels h (Plain o) Rest = (takes o ≤ h) × Names w fr.spaces fr.locals o × Rest (h - takes o + gives o)
FineOne w fr labels h (I64Const v) Rest = Rest (h + 1)
FineOne w fr labels h (SelectTyped ts) Rest = (3 ≤ h) × Rest (h - 2)
FineOne w fr labels h Unreachable Rest = Unit {0}
FineOne w fr labels h (Br k) Rest = Reaches labels k h
FineOne w fr labels h (BrIf k) Rest = (1 ≤ h) × Reaches labels k (h - 1) × Rest (h - 1)
FineOne w fr labels h (BrTable t) Rest = (1 ≤ h) × ((v : ℕ) → Reaches labels (target t.value v) (h - 1))
FineOne w fr labels h Return Rest = fr.results ≤ h
FineOne w fr labels h (Call i) Rest =
    (f : ℕ) × (g : StoreFunc) × (slice_get fr.spaces.functions i ≡ Some f) × (slice_get w.functions f ≡ Some g) × (params_of g ≤ h) × Rest (h - params_of g + results_of g)
FineOne w fr labels h (CallIndirect ty i) Rest =
    Place w.tables fr.spaces.tables i × (ty < length fr.spaces.types) × (length (type_at fr.spaces ty).params + 1 ≤ h)
    × Rest (h - 1 - length (type_at fr.spaces ty).params + length (type_at fr.spaces ty).results)
FineOne w fr labels h (Block t) Rest = ⊥
FineOne w fr labels h (Loop t) Rest = ⊥
FineOne w fr labels h (If t) Rest = ⊥
FineOne w fr labels h Else Rest = ⊥
FineOne w fr labels h End Rest = ⊥

-- a sequence on h operands that ends with `ends`
abbrev pub Fine : Scene → Frame → List ℕ → ℕ → ℕ → Seq → Type 0
Fine w fr labels h ends Stop = h ≡ ends
Fine w fr labels h ends (Then i rest) = FineOne w fr labels h i (λ k. Fine w fr labels k ends rest)
Fine w fr labels h ends (InBlock t body rest) =
    IsBlock fr.spaces t × (block_params fr.spaces t ≤ h)
    × Fine w fr (block_results fr.spaces t ∷ labels) (block_params fr.spaces t) (block_results fr.spaces t) body
    × Fine w fr labels (h - block_params fr.spaces t + block_results fr.spaces t) ends rest
Fine w fr labels h ends (InLoop t body rest) =
    IsBlock fr.spaces t × (block_params fr.spaces t ≤ h)
    × Fine w fr (block_params fr.spaces t ∷ labels) (block_params fr.spaces t) (block_results fr.spaces t) body
    × Fine w fr labels (h - block_params fr.spaces t + block_results fr.spaces t) ends rest
Fine w fr labels h ends (InIf t body other rest) =
    IsBlock fr.spaces t × (block_params fr.spaces t + 1 ≤ h)
    × Fine w fr (block_results fr.spaces t ∷ labels) (block_params fr.spaces t) (block_results fr.spaces t) body
    × Fine w fr (block_results fr.spaces t ∷ labels) (block_params fr.spaces t) (block_results fr.spaces t) other
    × Fine w fr labels (h - 1 - block_params fr.spaces t + block_results fr.spaces t) ends rest

abbrev pub frame_at : Scene → ℕ → ℕ → Frame
frame_at w f locals = record { spaces = spaces_at w f; locals = locals; results = length (results_at w f) }

abbrev pub FineFunction : Scene → ℕ → StoreFunc → Type 0
FineFunction w f (Inside ty instance locals body) =
    (instance < length w.instances)
    × Fine w (frame_at w f (length ty.params + length locals)) (length ty.results ∷ []) 0 (length ty.results) (tree body)
FineFunction w f (Outside ty number) = Unit {0}

-- each function of the store is fine
pub record IsFine (w : Scene) : Type 0 where
  pub each : (f : ℕ) (g : StoreFunc) → slice_get w.functions f ≡ Some g → FineFunction w f g
