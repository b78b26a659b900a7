-- The transfer area of the adapter's memory: what its realloc and its post-returns are, and what they do.
use Rattle.std.specs.Prelude.{◌≡◌, ℕ, ◌+◌, ◌*◌, ◌/◌, ◌<◌, ◌≤◌, ◌^◌, nat_le, if◌then◌else◌, true, List, [], ◌∷◌, ◌++◌, Option, Some, None, slice_get, slice_set}
use Rattle.virt_base.specs.declared.core_type.CoreType.TheVariants as types
use Rattle.wasm_ast.specs.declared.module.CoreFunc.{CoreFunc}
use Rattle.wasm_ast.specs.declared.module.Body.{Body}
use Rattle.wasm_ast.specs.declared.instr.BlockType.TheVariants.{Empty}
use Rattle.wasm_ast.specs.declared.instr.Op.TheVariants as op
use Rattle.wasm_ast.specs.declared.instr.Instr.{Instr}
use Rattle.wasm_ast.specs.declared.instr.Instr.TheVariants.{Plain, Unreachable, If, End}
use Rattle.core_store.specs.declared.value.CoreValue.{CoreValue}
use Rattle.core_store.specs.declared.value.CoreValue.TheVariants as values
use Rattle.core_store.specs.declared.value.CoreSpaces.{CoreSpaces}
use Rattle.core_store.specs.declared.value.StoreFunc.TheVariants.{Inside}
use Rattle.core_store.specs.Locals.{each_local}
use Rattle.core_store.specs.State.{State as StoreState, can_enter}
use Rattle.core_store.specs.Config.{Reply, Outcome, Done, Trapped, spaces_of}
use Rattle.core_store.specs.Eval.{eval}
use Rattle.core_body.specs.declared.operand.Operand.TheVariants.{Known}
use Rattle.core_body.specs.Context.{Context}
use Rattle.core_body.specs.Typing.{Labels}
use Rattle.adapter_code.specs.declared.layout.Layout.{Layout}
use Rattle.adapter_code.specs.declared.statement.Width.{Width}
use Rattle.adapter_code.specs.declared.statement.Width.TheVariants.{Narrow, Broad}
use Rattle.adapter_code.specs.declared.statement.IntOp.TheVariants.{LtU, Add, Sub, Shl, ShrU}
use Rattle.adapter_code.specs.Layout.{padded, transfer_at, end_of}
use Rattle.adapter_compile.specs.Instructions.{get, set, numeric, constant, opcode}
use Rattle.adapter_compile.specs.Does.{core_type}
use Rattle.adapter_transfer.specs.Valid.{IsPiece}

-- the last multiple of 8 in the area
abbrev pub last_at : Layout → ℕ
last_at l = transfer_at l + l.transfer / 8 * 8

abbrev pub get_end : Instr
get_end = Plain (op.GlobalGet 0)

abbrev pub set_end : Instr
set_end = Plain (op.GlobalSet 0)

-- ---- the code

-- it traps where fewer bytes are left than local 3 says
abbrev pub room_code : Layout → List Instr
room_code l = constant Narrow (last_at l) ∷ get_end ∷ numeric (opcode Sub Narrow) ∷ get 3 ∷ numeric (opcode LtU Narrow) ∷ If Empty ∷ Unreachable ∷ End ∷ []

-- the next multiple of 8 of an operand
abbrev pub rounded_code : List Instr
rounded_code = constant Narrow 7 ∷ numeric (opcode Add Narrow) ∷ constant Narrow 3 ∷ numeric (opcode ShrU Narrow) ∷ constant Narrow 3 ∷ numeric (opcode Shl Narrow) ∷ []

-- the end of the used part after a request whose length is in local 3, in local 3
abbrev pub next_code : List Instr
next_code = get 3 ∷ (rounded_code ++ get_end ∷ numeric (opcode Add Narrow) ∷ set 3 ∷ [])

abbrev pub give_code : List Instr
give_code = get_end ∷ get 3 ∷ set_end ∷ []

abbrev pub realloc_code : Layout → List Instr
realloc_code l = room_code l ++ (next_code ++ give_code)

abbrev pub reset_code : Layout → List Instr
reset_code l = constant Narrow (transfer_at l) ∷ set_end ∷ []

-- the functions' bodies, without further locals
abbrev pub body_of : List Instr → Body
body_of code = record { locals = []; code = code ++ End ∷ [] }

-- realloc takes the old place, the old length, an alignment and a length (CanonicalABI.md, "realloc")
abbrev pub realloc_type : CoreFunc
realloc_type = record { params = types.I32 ∷ types.I32 ∷ types.I32 ∷ types.I32 ∷ []; results = types.I32 ∷ [] }

abbrev pub reset_type : Option Width → CoreFunc
reset_type None = record { params = []; results = [] }
reset_type (Some w) = record { params = core_type w ∷ []; results = [] }

-- ---- what they do

-- a function of this type and body stands at a place of the store, in an instance with these index spaces, and may be called
pub record Stands (ty : CoreFunc) (body : Body) (spaces : CoreSpaces) (store : StoreState) (f : ℕ) : Type 0 where
  pub instance : ℕ
  pub function : slice_get store.functions f ≡ Some (Inside ty instance (each_local body.locals) body.code)
  pub own : spaces_of store.instances instance ≡ spaces
  pub enters : can_enter store ≡ true

-- the instance's global 0 holds the end of the used part of the area: a multiple of 8 in it
pub record IsUsed (l : Layout) (spaces : CoreSpaces) (store : StoreState) (global at : ℕ) : Type 0 where
  pub there : slice_get spaces.globals 0 ≡ Some global
  pub holds : slice_get store.globals global ≡ Some (values.I32 at)
  pub whole : at / 8 * 8 ≡ at
  pub from : transfer_at l ≤ at
  pub to : at ≤ end_of l

abbrev pub with_end : StoreState → ℕ → ℕ → StoreState
with_end store global at = record store { globals = slice_set store.globals global (values.I32 at) }

-- a request of that many bytes is answered with the used part's end, which moves on by the next multiple of 8 of the length; one
-- that passes the area's end traps
abbrev pub Gives : Layout → StoreState → ℕ → ℕ → ℕ → ℕ → Outcome
Gives l store global at len n = if nat_le (at + padded len) (end_of l) then Done (values.I32 at ∷ []) (with_end store global (at + padded len)) n else Trapped

-- in 19 steps, whatever the old place, the old length and the alignment
abbrev pub IsRealloc : Layout → Body → Type 0
IsRealloc l body =
    (spaces : CoreSpaces) (store : StoreState) (f global at : ℕ) → Stands realloc_type body spaces store f → IsUsed l spaces store global at →
    (old old_len align len : ℕ) → len < 2 ^ 32 → (rs : List Reply) (n : ℕ) →
    eval store f (values.I32 old ∷ values.I32 old_len ∷ values.I32 align ∷ values.I32 len ∷ []) rs (19 + n) ≡ Gives l store global at len n

-- the flat results as values
abbrev pub result_values : Option Width → ℕ → List CoreValue
result_values None v = []
result_values (Some Narrow) v = values.I32 v ∷ []
result_values (Some Broad) v = values.I64 v ∷ []

-- the used part is empty again, in two steps, whatever the results
abbrev pub IsReset : Layout → Option Width → Body → Type 0
IsReset l result body =
    (spaces : CoreSpaces) (store : StoreState) (f global at : ℕ) → Stands (reset_type result) body spaces store f → IsUsed l spaces store global at →
    (v : ℕ) (rs : List Reply) (n : ℕ) → eval store f (result_values result v) rs (2 + n) ≡ Done [] (with_end store global (transfer_at l)) n

-- ---- that their code is valid

-- a module's context has the global, a variable i32
abbrev pub HasEnd : Context → Type 0
HasEnd c = slice_get c.globals 0 ≡ Some (record { value = types.I32; variable = true })

-- realloc's code leaves its result, and a post-return's nothing, in whatever labels
pub record TransfersAreValid : Type 0 where
  pub reallocs : (l : Layout) (c : Context) (labels : Labels) → HasEnd c → slice_get c.locals 3 ≡ Some types.I32 → IsPiece c labels (realloc_code l) [] (Known types.I32 ∷ [])
  pub resets : (l : Layout) (c : Context) (labels : Labels) → HasEnd c → IsPiece c labels (reset_code l) [] []
