-- Imports that match a module, counts that agree, and what they promise of the store.
use Rattle.std.specs.Prelude.{ℕ, ◌≡◌, List, [], ◌∷◌, length, slice_get, Option, Some, None, Result, Ok, Err}
use Rattle.wasm_ast.specs.declared.module.CoreFunc.{CoreFunc}
use Rattle.wasm_ast.specs.declared.module.Import.{Import}
use Rattle.wasm_ast.specs.declared.module.ImportItem.{ImportItem}
use Rattle.wasm_ast.specs.declared.module.ImportItem.TheVariants as imported
use Rattle.wasm_ast.specs.declared.module.Module.{Module}
use Rattle.wasm_ast.specs.Modules.{SpellsModule}
use Rattle.core_memory.specs.declared.fault.StoreFault.{StoreFault}
use Rattle.core_memory.specs.declared.fault.StoreFault.TheVariants.{Trap, NoMemory}
use Rattle.core_store.specs.declared.value.StoreFunc.{StoreFunc}
use Rattle.core_store.specs.State.{State}
use Rattle.core_store.specs.Eval.{type_of}
use Rattle.core_store.specs.Scene.{scene_of}
use Rattle.core_store.specs.Fine.{IsFine}
use Rattle.core_instance.specs.declared.external.Extern.{Extern}
use Rattle.core_instance.specs.declared.external.Extern.TheVariants.{Func, Table, Memory, Global}
use Rattle.core_instance.specs.declared.external.CoreInstance.{CoreInstance}

-- there are as many bodies as functions, and as many data segments as the data count says (WebAssembly Core 2.0, section 5.5.16)
pub record HasCounts (m : Module) : Type 0 where
  pub bodies : length m.code ≡ length m.functions
  pub segments : (count : ℕ) → m.data_count ≡ Some count → length m.segments ≡ count

-- by the grammar
abbrev pub SpelledModulesHaveCounts : Type 0
SpelledModulesHaveCounts = (m : Module) (text : List ℕ) → SpellsModule m text → HasCounts m

abbrev pub IsOfType : Option CoreFunc → Option StoreFunc → Type 0
IsOfType None g = ⊥
IsOfType (Some ty) None = ⊥
IsOfType (Some ty) (Some g) = ty ≡ type_of g

-- What is imported is of the kind that the module declares, and a function of the declared type (sections 3.2.8 and 4.5.1).
-- The store keeps no types of tables, memories and globals, so of these only the kind is asked.
abbrev pub MatchesItem : State → List CoreFunc → ImportItem → Extern → Type 0
MatchesItem s types (imported.Func n) (Func at) = IsOfType (slice_get types n) (slice_get s.functions at)
MatchesItem s types (imported.Table t) (Table at) = Unit {0}
MatchesItem s types (imported.Memory l) (Memory at) = Unit {0}
MatchesItem s types (imported.Global g) (Global at) = Unit {0}
MatchesItem s types _ _ = ⊥

-- each import in order, and no more (section 4.5.4)
abbrev pub AllMatch : State → List CoreFunc → List Import → List Extern → Type 0
AllMatch s types [] [] = Unit {0}
AllMatch s types [] (e ∷ es) = ⊥
AllMatch s types (i ∷ is) [] = ⊥
AllMatch s types (i ∷ is) (e ∷ es) = MatchesItem s types i.item e × AllMatch s types is es

abbrev pub ImportsMatch : State → Module → List Extern → Type 0
ImportsMatch s m imports = AllMatch s m.types m.imports imports

-- the functions of the store find their operands afterwards, if they did before
abbrev pub KeepsFine : State → Module → List Extern → State → Type 0
KeepsFine s m imports t = HasCounts m → ImportsMatch s m imports → IsFine (scene_of s) → IsFine (scene_of t)

-- for each answer but that memory ran out
abbrev pub StaysFine : State → Module → List Extern → State → Result CoreInstance StoreFault → Type 0
StaysFine s m imports t (Ok instance) = KeepsFine s m imports t
StaysFine s m imports t (Err Trap) = KeepsFine s m imports t
StaysFine s m imports t (Err NoMemory) = Unit {0}
