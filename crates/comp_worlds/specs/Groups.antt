-- A group of component instances: what its instances are, and in what state they are. (This project's own. CanonicalABI.md has
-- `ComponentInstance` with its table, and this project's two flags.)
use Rattle.std.specs.Prelude.{ℕ, ◌+◌, List, Option, Some, None, Bool, Result}
use Rattle.wasm_ast.specs.declared.module.CoreFunc.{CoreFunc}
use Rattle.core_store.specs.State.{State, allows}
use Rattle.core_store.specs.declared.value.CoreValue.{CoreValue}
use Rattle.wit_types.specs.Plain.{Name, PlainFunc}
use Rattle.handle_space.specs.HandleMap.{HandleMap}
use Rattle.host_port.specs.declared.call.Resource.{Resource}
use Rattle.comp_worlds.specs.Acts.{Act}
use Rattle.comp_worlds.specs.Passing.{Passed}

-- ---- the nesting of calls

-- How many core calls and canonical calls are in progress, of that many at most. Without a limit they are not counted, so that what
-- nests differently but has no limit is in one state.
pub data Nesting : Type 0 where
  Endless : Nesting
  Nested : (most now : ℕ) → Nesting

abbrev pub deeper : Nesting → Nesting
deeper Endless = Endless
deeper (Nested most now) = Nested most (now + 1)

-- one more call may be in progress
abbrev pub has_room : Nesting → Bool
has_room Endless = allows None 0
has_room (Nested most now) = allows (Some most) now

-- with another number of calls in progress, as a store has it
abbrev pub at_depth : Nesting → ℕ → Nesting
at_depth Endless now = Endless
at_depth (Nested most was) now = Nested most now

-- a store in which that many calls are in progress
abbrev pub store_at : Nesting → State → State
store_at Endless s = record s { nesting = 0; deepest = None }
store_at (Nested most now) s = record s { nesting = now; deepest = Some most }

-- ---- what a group is made of

-- an import of the group, by its names, with its type in the group's own numbers of resources
pub record Import : Type 0 where
  pub interface : Name
  pub function : Name
  pub ty : PlainFunc

-- the options of a canonical function: places of a memory and a function in the store of its instance
pub record Options : Type 0 where
  pub memory : Option ℕ
  pub realloc : Option ℕ

-- a lifted function (Explainer.md, `canon lift`): its core function, its type, its options and its post-return
pub record Lifting : Type 0 where
  pub code : ℕ
  pub ty : PlainFunc
  pub options : Options
  pub post : Option ℕ

-- where a call leads: to a lifted function of an instance of the group, or to an import
pub data Target : Type 0 where
  Mine : (instance : ℕ) (lifting : Lifting) → Target
  Theirs : (import : Import) → Target

-- The type by which caller and callee pass values is that of what is called: in a valid component the other's type equals it.
abbrev pub type_of : Target → PlainFunc
type_of (Mine k lifting) = lifting.ty
type_of (Theirs import) = import.ty

-- a canonical function, as core code may call it (Explainer.md, `canon lower` and `canon resource.new`, `.drop` and `.rep`)
pub data Func : Type 0 where
  LoweredFunc : (target : Target) (options : Options) → Func
  ResourceNew : (resource : ℕ) → Func
  ResourceDrop : (resource : ℕ) → Func
  ResourceRep : (resource : ℕ) → Func

-- the instance that defines a resource, and its destructor
pub record Owner : Type 0 where
  pub instance : ℕ
  pub destructor : Option ℕ

-- a stage in the making of a group
pub data Stage : Type 0 where
  -- the canonical function of this number becomes a function of the instance's store
  Provides : (instance : ℕ) (ty : CoreFunc) (number : ℕ) → Stage
  -- a core module is instantiated in the instance's store, or traps, and then its start function runs
  Makes : (instance : ℕ) (make : State → Result State State) (start : Option ℕ) → Stage
  -- a component in the component begins to be instantiated
  Begins : Stage

pub record Group : Type 0 where
  -- the canonical functions of each instance, by the numbers that its store has for them
  pub canons : ℕ → ℕ → Option Func
  pub owner : ℕ → Option Owner
  -- the resources of imports, by the import in which each stands first
  pub imported : ℕ → Resource
  -- what is exported: functions by interface and name, and resources
  pub exports : Name → Name → Option Target
  pub given : Resource → Option ℕ
  -- how it is made
  pub stages : List Stage

-- ---- the state of a group

-- A component instance at a moment, over whatever its handles stand for. `entered`: a call of one of its functions is in progress.
-- `closed`: values are being lowered into it, or a post-return runs.
pub record Config (R : Type 0) : Type 0 where
  pub store : State
  pub map : HandleMap R
  pub entered : Bool
  pub closed : Bool

-- each instance of a group, and what is below: the state of what meets the group's imports
pub record World (S : Type 0) : Type 0 where
  pub configs : ℕ → Config ℕ
  pub below : S

-- ---- what meets imports

-- a call that was answered and is not yet left: by a host, by a lifted function, or by what is below
pub data Due : Type 0 where
  Nothing : Due
  Served : (instance : ℕ) (lifting : Lifting) (results : List CoreValue) → Due
  Below : (due : Due) → Due

pub record Answer : Type 0 where
  pub passed : Passed ℕ
  pub due : Due

-- core code calls, or the call is from outside
pub data Origin : Type 0 where
  Inside : Origin
  Outside : Origin

-- calls of imports, the return from an answered call, and drops of handles of imported resources
pub record Ports (S : Type 0) : Type 0 where
  pub ask : Nesting → Origin → Import → Passed ℕ → Act S Answer
  pub leave : Nesting → Due → Act S (Unit {0})
  pub drop : Nesting → Resource → ℕ → Act S (Unit {0})
