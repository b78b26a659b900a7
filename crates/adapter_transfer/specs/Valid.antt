-- When the code of a routine is valid where it stands (WebAssembly Core 2.0, sections 3.3 and 3.4.3).
use Rattle.std.specs.Prelude.{◌≡◌, ℕ, ◌+◌, ◌<◌, true, List, [], ◌∷◌, ◌++◌, length, map, take, Some, slice_get}
use Rattle.virt_base.specs.declared.core_type.CoreType.{CoreType}
use Rattle.virt_base.specs.declared.core_type.CoreType.TheVariants.{I32}
use Rattle.wasm_ast.specs.declared.instr.Instr.{Instr}
use Rattle.wasm_ast.specs.declared.instr.Instr.TheVariants.{End}
use Rattle.core_body.specs.declared.operand.Operand.{Operand}
use Rattle.core_body.specs.Context.{Context, function_type}
use Rattle.core_body.specs.Conditions.{code_conditions}
use Rattle.core_body.specs.Typing.{Trees, spell, Labels, Typed, operands}
use Rattle.core_body.specs.Locals.{spread}
use Rattle.core_body.specs.Views.{in_body}
use Rattle.core_validate.specs.Items.{Part}
use Rattle.core_validate.specs.Validity.{AreMet, PartHolds}
use Rattle.adapter_code.specs.declared.statement.Width.{Width}
use Rattle.adapter_code.specs.Code.{Code}
use Rattle.adapter_code.specs.WellFormed.{HasWidth, IsWellFormed}
use Rattle.adapter_compile.specs.declared.calls.HandleCalls.{HandleCalls}
use Rattle.adapter_compile.specs.Instructions.{call_at, routine_code}
use Rattle.adapter_compile.specs.Bounds.{nesting}
use Rattle.adapter_compile.specs.Handles.{makes_type, drops_type}
use Rattle.adapter_compile.specs.Does.{core_type, body_of}

-- Code in these labels, whatever stands after it: a sequence that takes the first operands and leaves the others, and that
-- breaks no rule which what is after it does not break.
pub record IsPiece (c : Context) (labels : Labels) (code : List Instr) (before after : List Operand) : Type 0 where
  pub trees : Trees → Trees
  pub spelled : (q : Trees) (rest : List Instr) → code ++ spell q rest ≡ spell (trees q) rest
  pub typed : (q : Trees) (below end : List Operand) → Typed c labels q (after ++ below) end → Typed c labels (trees q) (before ++ below) end
  pub met : (rule : ℕ) (rest : List Instr) →
      AreMet c rule (code_conditions true (length labels) rest) → AreMet c rule (code_conditions true (length labels) (code ++ rest))

-- routines over locals of these widths may stand here: the locals are there, after them that many counters, a memory, and
-- the functions by which handles are made and dropped
pub record MayHold (c : Context) (ws : List Width) (counters : ℕ) (calls : HandleCalls) : Type 0 where
  pub locals : (i : ℕ) (w : Width) → HasWidth ws i w → slice_get c.locals i ≡ Some (core_type w)
  pub behind : (i : ℕ) → i < counters → slice_get c.locals (length ws + i) ≡ Some I32
  pub memory : 0 < c.memories
  pub makes : (kind f : ℕ) → call_at calls.makes kind ≡ Some f → function_type c f ≡ Some makes_type
  pub drops : (kind f : ℕ) → call_at calls.drops kind ≡ Some f → function_type c f ≡ Some drops_type

-- the code of a well-formed routine takes no operands and leaves none
abbrev pub RoutinesAreValid : Type 0
RoutinesAreValid =
    (ws : List Width) (calls : HandleCalls) (code : Code) (c : Context) (labels : Labels) →
    IsWellFormed ws [] code → MayHold c ws (nesting code) calls → IsPiece c labels (routine_code ws calls code) [] []

-- one piece after another
abbrev pub PiecesJoin : Type 0
PiecesJoin =
    (c : Context) (labels : Labels) (x y : List Instr) (before middle after : List Operand) →
    IsPiece c labels x before middle → IsPiece c labels y middle after → IsPiece c labels (x ++ y) before after

-- the code of a function's body: a piece that leaves the function's results, and its end
abbrev pub body_part : Context → List CoreType → List CoreType → List Instr → Part
body_part c locals results code = record { context = in_body c locals results; in_body = true; code = code ++ End ∷ [] }

-- which keeps every rule
abbrev pub BodiesAreValid : Type 0
BodiesAreValid =
    (c : Context) (locals results : List CoreType) (code : List Instr) →
    IsPiece (in_body c locals results) (Some (operands results) ∷ []) code [] (operands results) →
    (rule : ℕ) → PartHolds rule (body_part c locals results code)

-- ---- routines as functions

-- a module has a memory, and the functions by which handles are made and dropped
pub record HasFunctions (c : Context) (calls : HandleCalls) : Type 0 where
  pub memory : 0 < c.memories
  pub makes : (kind f : ℕ) → call_at calls.makes kind ≡ Some f → function_type c f ≡ Some makes_type
  pub drops : (kind f : ℕ) → call_at calls.drops kind ≡ Some f → function_type c f ≡ Some drops_type

-- the code of a routine's function, of whose locals that many are parameters
abbrev pub function_part : Context → ℕ → List Width → HandleCalls → Code → Part
function_part c params ws calls code =
    let body = body_of params ws calls code in
    record { context = in_body c (map core_type (take params ws) ++ spread body.locals) []; in_body = true; code = body.code }

-- the function of each well-formed routine keeps every rule in such a module
abbrev pub FunctionsAreValid : Type 0
FunctionsAreValid =
    (c : Context) (params : ℕ) (ws : List Width) (calls : HandleCalls) (code : Code) →
    IsWellFormed ws [] code → HasFunctions c calls → (rule : ℕ) → PartHolds rule (function_part c params ws calls code)
