-- The functions of an instance as instantiation leaves it (WebAssembly Core 2.0, section 4.5.4).
use Rattle.std.specs.Prelude.{◌≡◌, ℕ, ◌+◌, ◌<◌, true, List, length, Some, slice_get, Ok}
use Rattle.std.specs.List.{flat_map}
use Rattle.wasm_ast.specs.declared.module.Body.{Body}
use Rattle.wasm_ast.specs.declared.module.Global.{Global}
use Rattle.wasm_ast.specs.declared.module.Module.{Module}
use Rattle.core_store.specs.declared.value.CoreSpaces.{CoreSpaces}
use Rattle.core_store.specs.declared.value.StoreFunc.{StoreFunc}
use Rattle.core_store.specs.declared.value.StoreFunc.TheVariants.{Inside}
use Rattle.core_store.specs.Locals.{each_local}
use Rattle.core_store.specs.State.{State as StoreState, can_enter}
use Rattle.core_store.specs.Config.{spaces_of}
use Rattle.core_validate.specs.Items.{body_type}
use Rattle.core_instance.specs.declared.external.Extern.{Extern}
use Rattle.core_instance.specs.Spaces.{functions_of, memories_of, globals_of, places_of}
use Rattle.core_instance.specs.Constants.{constant}
use Rattle.core_instance.specs.Instantiation.{names_of, instantiated}

-- the index spaces of the instance
abbrev pub spaces_in : StoreState → Module → List Extern → CoreSpaces
spaces_in s m imports = record (places_of s m imports) { types = m.types }

-- what was there stays; each body, global and memory stands after it, and after what is imported in its index space
pub record HasBodies (s : StoreState) (m : Module) (imports : List Extern) (t : StoreState) : Type 0 where
  pub earlier : (i : ℕ) (f : StoreFunc) → slice_get s.functions i ≡ Some f → slice_get t.functions i ≡ Some f
  pub functions : (i : ℕ) (b : Body) → slice_get m.code i ≡ Some b → slice_get t.functions (length s.functions + i) ≡ Some (Inside (body_type m i) (length s.instances) (each_local b.locals) b.code)
  pub own : spaces_of t.instances (length s.instances) ≡ spaces_in s m imports
  pub enters : can_enter t ≡ true
  pub named : (i : ℕ) → i < length m.code → slice_get (spaces_in s m imports).functions (length (flat_map functions_of imports) + i) ≡ Some (length s.functions + i)
  pub globals : (i : ℕ) (g : Global) → slice_get m.globals i ≡ Some g → slice_get t.globals (length s.globals + i) ≡ Some (constant (names_of s m imports) g.init)
  pub global_named : (i : ℕ) → i < length m.globals → slice_get (spaces_in s m imports).globals (length (flat_map globals_of imports) + i) ≡ Some (length s.globals + i)
  pub memory_named : (i : ℕ) → i < length m.memories → slice_get (spaces_in s m imports).memories (length (flat_map memories_of imports) + i) ≡ Some (length s.memories + i)
  pub memories : length t.memories ≡ length s.memories + length m.memories

-- in a store in which a call may begin, and where no segment traps
abbrev pub BodiesStand : Type 0
BodiesStand =
    (s : StoreState) (m : Module) (imports : List Extern) (t : StoreState) →
    can_enter s ≡ true → instantiated s m imports ≡ Ok t → HasBodies s m imports t
