-- The store (WebAssembly Core 2.0, section 4.2.3), whose items are named by their places.
use Rattle.std.specs.Prelude.{ℕ, ◌≡◌, ◌<◌, ◌≤◌, ◌+◌, nat_lt, Bool, true, false, List, [], length, slice_set, slice_index_or, Option, Some, None, Result, Ok, Err}
use Rattle.std.specs.List.{All}
use Rattle.virt_base.specs.declared.fault.NoMemory.{NoMemory}
use Rattle.core_memory.specs.Linear.{Linear, fresh, made_of}
use Rattle.core_store.specs.declared.value.CoreRef.{CoreRef}
use Rattle.core_store.specs.declared.value.CoreValue.{CoreValue}
use Rattle.core_store.specs.declared.value.CoreValue.TheVariants.{I32, I64, Ref}
use Rattle.core_store.specs.declared.value.StoreFunc.{StoreFunc}
use Rattle.core_store.specs.declared.value.CoreSpaces.{CoreSpaces}
use Rattle.core_store.specs.declared.value.TooDeep.{TooDeep}
use Rattle.core_store.specs.Table.{Entries, IsRef, AreRefs, nulls}

pub record State : Type 0 where
  pub functions : List StoreFunc
  pub tables : List Entries
  pub memories : List Linear
  pub globals : List CoreValue
  pub segments : List (List ℕ)
  pub elements : List (List CoreRef)
  pub instances : List CoreSpaces
  -- the number of calls in progress
  pub nesting : ℕ
  -- the greatest number of them, or none where they may nest without a limit
  pub deepest : Option ℕ

-- a store without items
abbrev pub empty_with : Option ℕ → State
empty_with deepest = record { functions = []; tables = []; memories = []; globals = []; segments = []; elements = []; instances = []; nesting = 0; deepest = deepest }

-- that of the machine, in which 65,536 calls may be in progress
abbrev pub empty : State
empty = empty_with (Some 65536)

-- a call more may be in progress
abbrev pub allows : Option ℕ → ℕ → Bool
allows None nesting = true
allows (Some deepest) nesting = nat_lt nesting deepest

abbrev pub can_enter : State → Bool
can_enter s = allows s.deepest s.nesting

-- the item at a place
abbrev pub memory_at : State → ℕ → Linear
memory_at s k = slice_index_or s.memories k (fresh 0 None)

abbrev pub table_at : State → ℕ → Entries
table_at s k = slice_index_or s.tables k (nulls 0 None)

abbrev pub segment_at : State → ℕ → List ℕ
segment_at s k = slice_index_or s.segments k []

abbrev pub elements_at : State → ℕ → List CoreRef
elements_at s k = slice_index_or s.elements k []

-- a reference, and one within a value, is null or names a function of the store
abbrev pub IsStoreRef : State → CoreRef → Type 0
IsStoreRef s r = IsRef (length s.functions) r

abbrev pub IsStoreValue : ℕ → CoreValue → Type 0
IsStoreValue functions (I32 n) = Unit {0}
IsStoreValue functions (I64 n) = Unit {0}
IsStoreValue functions (Ref r) = IsRef functions r

-- two values of one type
abbrev pub IsSameType : CoreValue → CoreValue → Type 0
IsSameType (I32 m) (I32 n) = Unit {0}
IsSameType (I64 m) (I64 n) = Unit {0}
IsSameType (Ref q) (Ref r) = Unit {0}
IsSameType v w = ⊥

-- A new item has the next place, and nothing that is there changes; or memory or the places ran out.
abbrev pub Adds : State → State → ℕ → State → Result ℕ NoMemory → Type 0
Adds old new place after (Ok at) = (at ≡ place) × (place < 4294967295) × (new ≡ after)
Adds old new place after (Err e) = new ≡ old

-- one memory or one table changes so, and nothing else does
abbrev pub InMemory : State → State → ℕ → (Linear → Linear → Type 0) → Type 0
InMemory old new k P = P (memory_at old k) (memory_at new k) × (new ≡ record old { memories = slice_set old.memories k (memory_at new k) })

abbrev pub InTable : State → State → ℕ → (Entries → Entries → Type 0) → Type 0
InTable old new k P = P (table_at old k) (table_at new k) × (new ≡ record old { tables = slice_set old.tables k (table_at new k) })

-- a call more is in progress, if the store's limit allows one
abbrev pub Enters : State → State → Result (Unit {0}) TooDeep → Type 0
Enters old new (Ok done) = (can_enter old ≡ true) × (new ≡ record old { nesting = old.nesting + 1 })
Enters old new (Err e) = (can_enter old ≡ false) × (new ≡ old)

-- each reference in the store is null or names one of its functions
pub record IsSound (s : State) : Type 0 where
  pub tables : All (λ t. AreRefs (length s.functions) t.refs) s.tables
  pub elements : All (AreRefs (length s.functions)) s.elements
  pub globals : All (IsStoreValue (length s.functions)) s.globals
  pub functions : length s.functions < 4294967296
  pub instances : length s.instances < 4294967296
  pub nesting : s.nesting ≤ 65536

abbrev pub made_at : State → ℕ → ℕ
made_at s k = made_of (memory_at s k)

-- the next place, where there is one
abbrev pub Places : ℕ → Result ℕ NoMemory → Type 0
Places count (Ok at) = (at ≡ count) × (count < 4294967295)
Places count (Err e) = 4294967295 ≤ count
