-- Instantiation of a module (WebAssembly Core 2.0, section 4.5.4), up to its start function, which the caller runs.
use Rattle.std.specs.Prelude.{ℕ, ◌≡◌, ◌+◌, ◌<◌, List, [], ◌∷◌, ◌++◌, length, map, slice_get, slice_set, slice_index_or, nat_le, is_some, true, if◌then◌else◌, Option, Some, None, Result, Ok, Err}
use Rattle.std.specs.Option.{option_map}
use Rattle.std.specs.List.{All, flat_map}
use Rattle.wasm_ast.specs.declared.module.Module.{Module}
use Rattle.wasm_ast.specs.declared.module.Body.{Body}
use Rattle.wasm_ast.specs.declared.module.Data.{Data}
use Rattle.wasm_ast.specs.declared.module.Data.TheVariants as data_of
use Rattle.wasm_ast.specs.declared.module.Elements.{Elements}
use Rattle.wasm_ast.specs.declared.module.Elements.TheVariants as elements
use Rattle.core_body.specs.Locals.{spread}
use Rattle.core_store.specs.Brackets.{ends_of}
use Rattle.core_memory.specs.Linear.{fresh, written}
use Rattle.core_memory.specs.Replaced.{replaced}
use Rattle.virt_base.specs.declared.fault.Trap.{Trap as TrapType}
use Rattle.core_memory.specs.declared.fault.StoreFault.{StoreFault}
use Rattle.core_memory.specs.declared.fault.StoreFault.TheVariants.{Trap, NoMemory}
use Rattle.core_store.specs.declared.value.CoreSpaces.{CoreSpaces}
use Rattle.core_store.specs.declared.value.StoreFunc.{StoreFunc}
use Rattle.core_store.specs.declared.value.StoreFunc.TheVariants.{Inside}
use Rattle.core_store.specs.declared.value.CoreRef.{CoreRef}
use Rattle.core_store.specs.declared.value.CoreValue.TheVariants.{I32}
use Rattle.core_store.specs.Table.{nulls}
use Rattle.core_store.specs.State.{State, IsStoreValue, memory_at, table_at, segment_at, elements_at}
use Rattle.core_validate.specs.Items.{body_type}
use Rattle.core_instance.specs.declared.external.Extern.{Extern}
use Rattle.core_instance.specs.declared.external.CoreInstance.{CoreInstance}
use Rattle.core_instance.specs.Spaces.{globals_of, places_of, place_at, named_extern}
use Rattle.core_instance.specs.declared.constants.Names.{Names}
use Rattle.core_instance.specs.Constants.{constant, offset_in, refs_of}

-- ---- allocation (section 4.5.3)

-- the functions of a module's bodies, from the one at this index on, in the instance of this number
abbrev pub functions_from : Module → ℕ → ℕ → List Body → List StoreFunc
functions_from m instance at [] = []
functions_from m instance at (b ∷ bodies) =
    Inside (body_type m at) instance (spread b.locals) b.code ∷ functions_from m instance (at + 1) bodies

-- each block of the body has its end
abbrev pub IsClosed : Body → Type 0
IsClosed b = is_some (ends_of b.code) ≡ true

abbrev pub bytes_of : Data → List ℕ
bytes_of (data_of.Active offset bytes) = bytes
bytes_of (data_of.Passive bytes) = bytes
bytes_of (data_of.ActiveAt memory offset bytes) = bytes

-- a constant expression names imported globals, and any function of the module
abbrev pub names_of : State → Module → List Extern → Names
names_of s m imports = record {
  globals = map (λ at. slice_index_or s.globals at (I32 0)) (flat_map globals_of imports);
  functions = (places_of s m imports).functions;
}

-- what the names lead to is there in a store with that many functions
abbrev pub AreNames : ℕ → Names → Type 0
AreNames functions names = All (IsStoreValue functions) names.globals × All (λ at. at < functions) names.functions

-- the store with the module's items, before its segments are written
abbrev pub allocated : State → Module → List Extern → State
allocated s m imports = record {
  functions = s.functions ++ functions_from m (length s.instances) 0 m.code;
  tables = s.tables ++ map (λ t. nulls t.limits.min t.limits.max) m.tables;
  memories = s.memories ++ map (λ l. fresh l.min l.max) m.memories;
  globals = s.globals ++ map (λ g. constant (names_of s m imports) g.init) m.globals;
  segments = s.segments ++ map bytes_of m.segments;
  elements = s.elements ++ map (refs_of (names_of s m imports)) m.elements;
  instances = s.instances ++ record (places_of s m imports) { types = m.types } ∷ [];
  nesting = s.nesting;
  deepest = s.deepest;
}

-- ---- segments: the store after them, or the store in which one traps

abbrev pub and_next : Result State State → (State → Result State State) → Result State State
and_next (Ok s) f = f s
and_next (Err s) f = Err s

abbrev pub without_element : State → ℕ → State
without_element s k = record s { elements = slice_set s.elements k [] }

abbrev pub without_segment : State → ℕ → State
without_segment s k = record s { segments = slice_set s.segments k [] }

abbrev pub with_refs : State → ℕ → ℕ → List CoreRef → State
with_refs s table at refs = record s { tables = slice_set s.tables table (record (table_at s table) { refs = replaced (table_at s table).refs at refs }) }

abbrev pub with_bytes : State → ℕ → ℕ → List ℕ → State
with_bytes s memory at bytes = record s { memories = slice_set s.memories memory (written (memory_at s memory) at bytes) }

-- A segment is written whole, and then has nothing any more; it traps exactly where it passes the end of its table or
-- memory. In a valid module the table or memory is there.
abbrev pub write_element : State → ℕ → Option ℕ → ℕ → Result State State
write_element s k None at = Ok s
write_element s k (Some table) at =
    if nat_le (at + length (elements_at s k)) (length (table_at s table).refs) then Ok (without_element (with_refs s table at (elements_at s k)) k) else Err s

abbrev pub write_segment : State → ℕ → Option ℕ → ℕ → Result State State
write_segment s k None at = Ok s
write_segment s k (Some memory) at =
    if nat_le (at + length (segment_at s k)) (length (memory_at s memory).bytes) then Ok (without_segment (with_bytes s memory at (segment_at s k)) k) else Err s

-- what becomes of the element segment at a place: an active one is written, a declared one has no elements any more, and a passive one stays
abbrev pub apply_element : CoreSpaces → Names → State → ℕ → Elements → Result State State
apply_element v names s k (elements.ActiveFuncs offset funcs) = write_element s k (slice_get v.tables 0) (offset_in (constant names offset))
apply_element v names s k (elements.PassiveFuncs funcs) = Ok s
apply_element v names s k (elements.ActiveFuncsAt table offset funcs) = write_element s k (slice_get v.tables table) (offset_in (constant names offset))
apply_element v names s k (elements.DeclaredFuncs funcs) = Ok (without_element s k)
apply_element v names s k (elements.ActiveExprs offset exprs) = write_element s k (slice_get v.tables 0) (offset_in (constant names offset))
apply_element v names s k (elements.PassiveExprs ty exprs) = Ok s
apply_element v names s k (elements.ActiveExprsAt table offset ty exprs) = write_element s k (slice_get v.tables table) (offset_in (constant names offset))
apply_element v names s k (elements.DeclaredExprs ty exprs) = Ok (without_element s k)

abbrev pub apply_data : CoreSpaces → Names → State → ℕ → Data → Result State State
apply_data v names s k (data_of.Active offset bytes) = write_segment s k (slice_get v.memories 0) (offset_in (constant names offset))
apply_data v names s k (data_of.Passive bytes) = Ok s
apply_data v names s k (data_of.ActiveAt memory offset bytes) = write_segment s k (slice_get v.memories memory) (offset_in (constant names offset))

-- the segments from a place on, in order
abbrev pub apply_elements : CoreSpaces → Names → State → ℕ → List Elements → Result State State
apply_elements v names s k [] = Ok s
apply_elements v names s k (e ∷ es) = and_next (apply_element v names s k e) (λ t. apply_elements v names t (k + 1) es)

abbrev pub apply_segments : CoreSpaces → Names → State → ℕ → List Data → Result State State
apply_segments v names s k [] = Ok s
apply_segments v names s k (d ∷ ds) = and_next (apply_data v names s k d) (λ t. apply_segments v names t (k + 1) ds)

-- What a call answers, which left the store t, where the store after it is this, or the store in which it traps.
abbrev pub Leaves : Result State State → State → Result (Unit {0}) TrapType → Type 0
Leaves due t (Ok done) = due ≡ Ok t
Leaves due t (Err trap) = due ≡ Err t

-- The same of a call for which memory may run out.
abbrev pub LeavesInMemory : Result State State → State → Result (Unit {0}) StoreFault → Type 0
LeavesInMemory due t (Ok done) = due ≡ Ok t
LeavesInMemory due t (Err Trap) = due ≡ Err t
LeavesInMemory due t (Err NoMemory) = Unit {0}

-- ---- all of it

-- allocation, then the element segments, then the data segments
abbrev pub instantiated : State → Module → List Extern → Result State State
instantiated s m imports =
    let v = places_of s m imports in
    let names = names_of s m imports in
    and_next (apply_elements v names (allocated s m imports) (length s.elements) m.elements)
    (λ t. apply_segments v names t (length s.segments) m.segments)

-- the instance's place, its exports in written order, and the start function, which has not run
abbrev pub instance_of : State → Module → List Extern → CoreInstance
instance_of s m imports = record {
  number = length s.instances;
  exports = map (named_extern (places_of s m imports)) m.exports;
  start = option_map (λ n. place_at (places_of s m imports).functions n) m.start;
}

-- What an instantiation answers, which left the store t: the instance; or that a segment passes its table or memory, and
-- what was written before it stays; or that memory ran out, and nothing is said of the store.
abbrev pub Answers : State → Module → List Extern → State → Result CoreInstance StoreFault → Type 0
Answers s m imports t (Ok instance) = (instantiated s m imports ≡ Ok t) × (instance ≡ instance_of s m imports)
Answers s m imports t (Err Trap) = instantiated s m imports ≡ Err t
Answers s m imports t (Err NoMemory) = Unit {0}
