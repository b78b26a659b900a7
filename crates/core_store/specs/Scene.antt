-- What of a store no instruction changes: its functions and instances, how many other items there are, and how deep calls may nest.
use Rattle.std.specs.Prelude.{ℕ, ◌≡◌, ◌<◌, ◌≤◌, List, [], ◌++◌, Option, Some, None, length, slice_get}
use Rattle.virt_base.specs.declared.core_type.CoreType.{CoreType}
use Rattle.wasm_ast.specs.declared.instr.Instr.{Instr}
use Rattle.core_store.specs.declared.value.CoreSpaces.{CoreSpaces}
use Rattle.core_store.specs.declared.value.StoreFunc.{StoreFunc}
use Rattle.core_store.specs.declared.value.StoreFunc.TheVariants.{Inside, Outside}
use Rattle.core_store.specs.State.{State}
use Rattle.core_store.specs.Config.{spaces_of}
use Rattle.core_store.specs.Eval.{function_type}

pub record Scene : Type 0 where
  pub functions : List StoreFunc
  pub instances : List CoreSpaces
  pub globals : ℕ
  pub tables : ℕ
  pub memories : ℕ
  pub segments : ℕ
  pub elements : ℕ
  pub deepest : Option ℕ

abbrev pub scene_of : State → Scene
scene_of s = record {
  functions = s.functions;
  instances = s.instances;
  globals = length s.globals;
  tables = length s.tables;
  memories = length s.memories;
  segments = length s.segments;
  elements = length s.elements;
  deepest = s.deepest;
}

abbrev pub code_of : Option StoreFunc → List Instr
code_of None = []
code_of (Some (Inside ty instance locals body)) = body
code_of (Some (Outside ty number)) = []

abbrev pub instance_of : Option StoreFunc → ℕ
instance_of None = 0
instance_of (Some (Inside ty instance locals body)) = instance
instance_of (Some (Outside ty number)) = 0

-- the code of the function at a place, and the index spaces of its instance
abbrev pub code_at : Scene → ℕ → List Instr
code_at w f = code_of (slice_get w.functions f)

abbrev pub spaces_at : Scene → ℕ → CoreSpaces
spaces_at w f = spaces_of w.instances (instance_of (slice_get w.functions f))

abbrev pub results_at : Scene → ℕ → List CoreType
results_at w f = (function_type (slice_get w.functions f)).results

-- a function of a module, whose instance is there
abbrev pub IsInside : Scene → Option StoreFunc → Type 0
IsInside w None = ⊥
IsInside w (Some (Inside ty instance locals body)) = instance < (length w.instances)
IsInside w (Some (Outside ty number)) = ⊥

-- functions and instances were appended, and no other item was taken away
pub record Grows (w v : Scene) : Type 0 where
  pub new_functions : List StoreFunc
  pub functions : v.functions ≡ w.functions ++ new_functions
  pub new_instances : List CoreSpaces
  pub instances : v.instances ≡ w.instances ++ new_instances
  pub globals : w.globals ≤ v.globals
  pub tables : w.tables ≤ v.tables
  pub memories : w.memories ≤ v.memories
  pub segments : w.segments ≤ v.segments
  pub elements : w.elements ≤ v.elements
  pub deepest : w.deepest ≡ v.deepest

-- a store only grew: functions and instances were appended, no other item was taken away, and calls may nest as deep as before
abbrev pub Grew : State → State → Type 0
Grew s t = Grows (scene_of s) (scene_of t)

-- a store only grew, and as many calls are in progress as before: those that were begun in between came back
pub record CameBack (s t : State) : Type 0 where
  pub grew : Grew s t
  pub nesting : s.nesting ≡ t.nesting
