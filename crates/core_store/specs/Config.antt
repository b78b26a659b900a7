-- Where an evaluation stands, and how it ends.
use Rattle.std.specs.Prelude.{ℕ, ◌-◌, List, [], ◌++◌, unwrap_or, slice_get, length, take, drop}
use Rattle.wasm_ast.specs.declared.module.CoreFunc.{CoreFunc}
use Rattle.wasm_ast.specs.declared.instr.BlockType.{BlockType}
use Rattle.wasm_ast.specs.declared.instr.BlockType.TheVariants.{Empty, Value, Index}
use Rattle.core_store.specs.declared.value.CoreValue.{CoreValue}
use Rattle.core_store.specs.declared.value.CoreSpaces.{CoreSpaces}
use Rattle.core_store.specs.State.{State}

-- what a call of a function of the embedder answered: its results, and the store as it then was
pub record Reply : Type 0 where
  pub results : List CoreValue
  pub store : State

-- a configuration (WebAssembly Core 2.0, section 4.2.13): the operands of the innermost call, the topmost first, its locals,
-- the index spaces of its instance, the store, and the replies to come
pub record Config : Type 0 where
  pub stack : List ℕ
  pub locals : List ℕ
  pub spaces : CoreSpaces
  pub store : State
  pub replies : List Reply

-- how an evaluation ends, with the steps that are left where it is done and where it asks
pub data Outcome : Type 0 where
  Done : (values : List CoreValue) (store : State) (left : ℕ) → Outcome
  Trapped : Outcome
  -- the replies are used up where a function of the embedder is called, which has this number
  Asks : (number : ℕ) (args : List CoreValue) (store : State) (left : ℕ) → Outcome
  -- an instruction is due, or a call too deep, and no step is left
  Spent : Outcome
  -- a call more is due than the store's limit allows
  TooDeep : Outcome

-- how a piece of code ends, with the steps that are left: it goes on after its end, to a label, or out of its function; or all ends
pub data Out : Type 0 where
  Next : (n : ℕ) (c : Config) → Out
  Break : (label n : ℕ) (c : Config) → Out
  Back : (n : ℕ) (c : Config) → Out
  Over : (o : Outcome) → Out

abbrev pub then_do : Out → (ℕ → Config → Out) → Out
then_do (Next n c) go = go n c
then_do (Break k n c) go = Break k n c
then_do (Back n c) go = Back n c
then_do (Over o) go = Over o

abbrev pub with_stack : Config → List ℕ → Config
with_stack c xs = record { stack = xs; locals = c.locals; spaces = c.spaces; store = c.store; replies = c.replies }

abbrev pub with_locals : Config → List ℕ → List ℕ → Config
with_locals c xs ls = record { stack = xs; locals = ls; spaces = c.spaces; store = c.store; replies = c.replies }

abbrev pub with_store : Config → List ℕ → State → Config
with_store c xs s = record { stack = xs; locals = c.locals; spaces = c.spaces; store = s; replies = c.replies }

-- the topmost operands of this number, above the lowest of that height
abbrev pub kept : ℕ → ℕ → List ℕ → List ℕ
kept arity height xs = take arity xs ++ drop (length xs - height) xs

-- no index space has an item
abbrev pub bare : CoreSpaces
bare = record { types = []; functions = []; tables = []; memories = []; globals = []; segments = []; elements = [] }

-- the index spaces of the instance at a place
abbrev pub spaces_of : List CoreSpaces → ℕ → CoreSpaces
spaces_of instances k = unwrap_or (slice_get instances k) bare

abbrev pub untyped : CoreFunc
untyped = record { params = []; results = [] }

abbrev pub type_at : CoreSpaces → ℕ → CoreFunc
type_at spaces n = unwrap_or (slice_get spaces.types n) untyped

-- how many operands a block takes, and how many it leaves
abbrev pub block_params : CoreSpaces → BlockType → ℕ
block_params spaces Empty = 0
block_params spaces (Value t) = 0
block_params spaces (Index n) = length (type_at spaces n).params

abbrev pub block_results : CoreSpaces → BlockType → ℕ
block_results spaces Empty = 0
block_results spaces (Value t) = 1
block_results spaces (Index n) = length (type_at spaces n).results
