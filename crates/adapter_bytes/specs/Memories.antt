-- What the memory of a module holds once it is instantiated.
use Rattle.std.specs.Prelude.{◌≡◌, ℕ, ◌+◌, ◌*◌, ◌≤◌, List, [], ◌∷◌, length, Ok}
use Rattle.std.specs.List.{flat_map}
use Rattle.wasm_ast.specs.declared.instr.Instr.{Instr}
use Rattle.wasm_ast.specs.declared.module.Data.TheVariants.{Active}
use Rattle.wasm_ast.specs.declared.module.Limits.{Limits}
use Rattle.wasm_ast.specs.declared.module.Module.{Module}
use Rattle.core_memory.specs.Linear.{fresh, written}
use Rattle.core_store.specs.State.{State as StoreState, memory_at}
use Rattle.core_instance.specs.declared.external.Extern.{Extern}
use Rattle.core_instance.specs.Spaces.{memories_of}
use Rattle.core_instance.specs.Constants.{constant, offset_in}
use Rattle.core_instance.specs.Instantiation.{names_of, instantiated}

-- a module with one memory, of its own, and one segment, which is written into it
pub record Fills (m : Module) (imports : List Extern) (limits : Limits) (offset : List Instr) (bytes : List ℕ) : Type 0 where
  pub bare : m.elements ≡ []
  pub imported : flat_map memories_of imports ≡ []
  pub memory : m.memories ≡ limits ∷ []
  pub segment : m.segments ≡ Active offset bytes ∷ []

-- the segment fits, and its bytes stand in a memory of zeros
pub record Filled (limits : Limits) (at : ℕ) (bytes : List ℕ) (place : ℕ) (t : StoreState) : Type 0 where
  pub within : at + length bytes ≤ 65536 * limits.min
  pub holds : memory_at t place ≡ written (fresh limits.min limits.max) at bytes

abbrev pub MemoriesAreFilled : Type 0
MemoriesAreFilled =
    (s : StoreState) (m : Module) (imports : List Extern) (t : StoreState) (limits : Limits) (offset : List Instr) (bytes : List ℕ) →
    Fills m imports limits offset bytes → instantiated s m imports ≡ Ok t →
    Filled limits (offset_in (constant (names_of s m imports) offset)) bytes (length s.memories) t
