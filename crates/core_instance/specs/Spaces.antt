-- The index spaces of an instance: what is imported stands before what the module defines (WebAssembly Core 2.0, section 2.5.1).
use Rattle.std.specs.Prelude.{ℕ, ◌<◌, List, [], ◌∷◌, ◌++◌, length, slice_index_or}
use Rattle.std.specs.List.{flat_map, range_with_len}
use Rattle.wasm_ast.specs.declared.module.Module.{Module}
use Rattle.wasm_ast.specs.declared.module.Export.{Export}
use Rattle.wasm_ast.specs.declared.module.ExportItem.{ExportItem}
use Rattle.wasm_ast.specs.declared.module.ExportItem.TheVariants as exported
use Rattle.core_store.specs.declared.value.CoreSpaces.{CoreSpaces}
use Rattle.core_store.specs.State.{State}
use Rattle.core_instance.specs.declared.external.Extern.{Extern}
use Rattle.core_instance.specs.declared.external.Extern.TheVariants.{Func, Table, Memory, Global}
use Rattle.core_instance.specs.declared.external.NamedExtern.{NamedExtern}

abbrev pub functions_of : Extern → List ℕ
functions_of (Func at) = at ∷ []
functions_of (Table at) = []
functions_of (Memory at) = []
functions_of (Global at) = []

abbrev pub tables_of : Extern → List ℕ
tables_of (Func at) = []
tables_of (Table at) = at ∷ []
tables_of (Memory at) = []
tables_of (Global at) = []

abbrev pub memories_of : Extern → List ℕ
memories_of (Func at) = []
memories_of (Table at) = []
memories_of (Memory at) = at ∷ []
memories_of (Global at) = []

abbrev pub globals_of : Extern → List ℕ
globals_of (Func at) = []
globals_of (Table at) = []
globals_of (Memory at) = []
globals_of (Global at) = at ∷ []

-- the places of what is imported; they have no function types beside them yet
abbrev pub imported_places : List Extern → CoreSpaces
imported_places imports = record {
  types = [];
  functions = flat_map functions_of imports;
  tables = flat_map tables_of imports;
  memories = flat_map memories_of imports;
  globals = flat_map globals_of imports;
  segments = [];
  elements = [];
}

-- after them the places of the module's own items, when they are added to this store
abbrev pub places_of : State → Module → List Extern → CoreSpaces
places_of s m imports = record {
  types = [];
  functions = flat_map functions_of imports ++ range_with_len (length s.functions) (length m.code);
  tables = flat_map tables_of imports ++ range_with_len (length s.tables) (length m.tables);
  memories = flat_map memories_of imports ++ range_with_len (length s.memories) (length m.memories);
  globals = flat_map globals_of imports ++ range_with_len (length s.globals) (length m.globals);
  segments = range_with_len (length s.segments) (length m.segments);
  elements = range_with_len (length s.elements) (length m.elements);
}

-- the place after an index. In a valid module it is there; 0 stands for one that is not
abbrev pub place_at : List ℕ → ℕ → ℕ
place_at places n = slice_index_or places n 0

abbrev pub extern_of : CoreSpaces → ExportItem → Extern
extern_of v (exported.Func n) = Func (place_at v.functions n)
extern_of v (exported.Table n) = Table (place_at v.tables n)
extern_of v (exported.Memory n) = Memory (place_at v.memories n)
extern_of v (exported.Global n) = Global (place_at v.globals n)

abbrev pub named_extern : CoreSpaces → Export → NamedExtern
named_extern v e = record { name = e.name; item = extern_of v e.item }

-- the item that is imported is in the store
abbrev pub IsThere : State → Extern → Type 0
IsThere s (Func at) = at < length s.functions
IsThere s (Table at) = at < length s.tables
IsThere s (Memory at) = at < length s.memories
IsThere s (Global at) = at < length s.globals
