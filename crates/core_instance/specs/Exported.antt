-- What an instance gives is there, and has the types of the module's type (WebAssembly Core 2.0, sections 3.4.10 and 4.5.4).
use Rattle.std.specs.Prelude.{◌≡◌, ◌<◌, List, [], ◌∷◌, Some, length, slice_get, Result, Ok, Err}
use Rattle.wasm_ast.specs.declared.module.Module.{Module}
use Rattle.core_validate.specs.declared.item.CoreItem.{CoreItem}
use Rattle.core_validate.specs.declared.item.CoreItem.TheVariants as item
use Rattle.core_validate.specs.declared.item.CoreExport.{CoreExport}
use Rattle.core_validate.specs.Typed.{type_of}
use Rattle.core_memory.specs.declared.fault.StoreFault.{StoreFault}
use Rattle.core_memory.specs.declared.fault.StoreFault.TheVariants.{Trap, NoMemory}
use Rattle.core_store.specs.State.{State}
use Rattle.core_store.specs.Scene.{CameBack}
use Rattle.core_instance.specs.declared.external.Extern.{Extern}
use Rattle.core_instance.specs.declared.external.Extern.TheVariants.{Func, Table, Memory, Global}
use Rattle.core_instance.specs.declared.external.NamedExtern.{NamedExtern}
use Rattle.core_instance.specs.declared.external.CoreInstance.{CoreInstance}
use Rattle.core_instance.specs.Matching.{HasCounts, IsOfType, ImportsMatch}

-- The item is there, and a function has the type. The store keeps no types of tables, memories and globals.
abbrev pub IsGiven : State → CoreItem → Extern → Type 0
IsGiven t (item.Func ty) (Func at) = IsOfType (Some ty) (slice_get t.functions at)
IsGiven t (item.Table ty limits) (Table at) = at < length t.tables
IsGiven t (item.Memory limits) (Memory at) = at < length t.memories
IsGiven t (item.Global ty variable) (Global at) = at < length t.globals
IsGiven t _ _ = ⊥

-- each in order, by its name
abbrev pub AreGiven : State → List CoreExport → List NamedExtern → Type 0
AreGiven t [] [] = Unit {0}
AreGiven t [] (x ∷ xs) = ⊥
AreGiven t (e ∷ es) [] = ⊥
AreGiven t (e ∷ es) (x ∷ xs) = (x.name ≡ e.name) × IsGiven t e.item x.item × AreGiven t es xs

-- the exports of the module's type, where its counts agree and the imports match
abbrev pub GivesExports : State → Module → List Extern → State → CoreInstance → Type 0
GivesExports s m imports t instance = HasCounts m → ImportsMatch s m imports → AreGiven t (type_of m).exports instance.exports

-- for each answer but that memory ran out: the store only grew, and as many calls are in progress
abbrev pub OnlyGrew : State → State → Result CoreInstance StoreFault → Type 0
OnlyGrew s t (Ok instance) = CameBack s t
OnlyGrew s t (Err Trap) = CameBack s t
OnlyGrew s t (Err NoMemory) = Unit {0}
