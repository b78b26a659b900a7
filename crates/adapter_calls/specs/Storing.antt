-- A value is stored in an adapter's instance as the steps of storing say, and requests are answered by its transfer area (Component Model,
-- CanonicalABI.md, "Storing").
use Rattle.std.specs.Prelude.{◌≡◌, ℕ, ◌+◌, ◌/◌, ◌*◌, ◌<◌, ◌≤◌, ◌^◌, List, [], ◌∷◌, length, map, Option, Some, None, true, false}
use Rattle.wasm_ast.specs.declared.module.Body.{Body}
use Rattle.core_store.specs.declared.value.CoreSpaces.{CoreSpaces}
use Rattle.core_store.specs.State.{State, memory_at}
use Rattle.abi_layout.specs.Loading.{is_aligned}
use Rattle.abi_layout.specs.Storing.{Step, Ask, Write, Place, Refuse, Lowered}
use Rattle.adapter_code.specs.declared.layout.Layout.{Layout}
use Rattle.adapter_code.specs.Layout.{end_of}
use Rattle.adapter_transfer.specs.Transfer.{Stands, IsUsed, IsRealloc, realloc_type}
use Rattle.host_port.specs.Hosts.{HostStep}
use Rattle.comp_worlds.specs.Acts.{Trapped, Next, Over}
use Rattle.comp_worlds.specs.Groups.{Endless, Options, Config, Group, World}
use Rattle.comp_worlds.specs.Locals.{with_store, flat_word}
use Rattle.comp_worlds.specs.Calls.{stores, lowers_closed}
use Rattle.comp_worlds.specs.Hosts.{hosted}
use Rattle.comp_frames.specs.Running.{running}
use Rattle.row_runs.specs.Stored.{Stored, stored_in}
use Rattle.adapter_calls.specs.Instance.{standing, IsQuiet}

-- where the adapter's state module stands in its instance
pub record Area : Type 0 where
  pub layout : Layout
  pub body : Body
  pub spaces : CoreSpaces
  pub memory : ℕ
  pub realloc : ℕ
  pub global : ℕ

-- the store has these bytes in the memory, and so much of the transfer area is used
pub record HasArea (p : Area) (store : State) (s : Stored) : Type 0 where
  pub quiet : IsQuiet store
  pub within : p.memory < length store.memories
  pub bytes : (memory_at store p.memory).bytes ≡ s.memory
  pub holds : end_of p.layout ≤ length s.memory
  pub realloc : Stands realloc_type p.body p.spaces store p.realloc
  pub used : IsUsed p.layout p.spaces store p.global s.used

-- the same, whatever calls are in progress
pub record HasRoom (p : Area) (store : State) (s : Stored) : Type 0 where
  pub within : p.memory < length store.memories
  pub bytes : (memory_at store p.memory).bytes ≡ s.memory
  pub holds : end_of p.layout ≤ length s.memory
  pub realloc : Stands realloc_type p.body p.spaces store p.realloc
  pub used : IsUsed p.layout p.spaces store p.global s.used

-- a store that differs in memories and globals alone
pub record SameBut (old new : State) : Type 0 where
  pub functions : new.functions ≡ old.functions
  pub instances : new.instances ≡ old.instances
  pub tables : new.tables ≡ old.tables
  pub segments : new.segments ≡ old.segments
  pub elements : new.elements ≡ old.elements
  pub memories : length new.memories ≡ length old.memories
  pub globals : length new.globals ≡ length old.globals

-- each multiple of 8 is aligned so, and the length is one of 32 bits
pub record CanAsk (align len : ℕ) : Type 0 where
  pub aligned : (at : ℕ) → at / 8 * 8 ≡ at → is_aligned at align ≡ true
  pub short : len < 2 ^ 32

abbrev pub CanAskAll : List Step → Type 0
CanAskAll [] = Unit {0}
CanAskAll (Ask align len ∷ steps) = CanAsk align len × CanAskAll steps
CanAskAll (Write base offset bytes ∷ steps) = CanAskAll steps
CanAskAll (Place base offset request ∷ steps) = CanAskAll steps
CanAskAll (Refuse ∷ steps) = CanAskAll steps

-- the steps that it takes: a canonical call of realloc for each request
abbrev pub cost : List Step → ℕ
cost [] = 0
cost (Ask align len ∷ steps) = 20 + cost steps
cost (Write base offset bytes ∷ steps) = cost steps
cost (Place base offset request ∷ steps) = cost steps
cost (Refuse ∷ steps) = cost steps

-- the options of the adapter's canonical functions
abbrev pub options_of : Area → Options
options_of p = record { memory = Some p.memory; realloc = Some p.realloc }

-- It is stored, or it traps.
pub record StoresSo {S : Type 0} (h : HostStep S) (G : Group) (instance : ℕ) (p : Area) (target : ℕ) (steps : List Step) (w : World S) (c : Config ℕ) (s : S) (from to : Stored) : Type 0 where
  pub store : State
  pub same : SameBut c.store store
  pub area : HasArea p store to
  pub goes : (n : ℕ) → stores G (hosted h) (running G (hosted h)) Endless instance (options_of p) target from.answers steps (standing w instance c s) (cost steps + n) ≡ Next [] n (standing w instance (with_store c store) s) to.answers

abbrev pub StoredOrTrapped : {S : Type 0} (h : HostStep S) (G : Group) (instance : ℕ) (p : Area) (target : ℕ) (steps : List Step) (w : World S) (c : Config ℕ) (s : S) (from : Stored) → Option Stored → Type 0
StoredOrTrapped h G instance p target steps w c s from (Some to) = StoresSo h G instance p target steps w c s from to
StoredOrTrapped h G instance p target steps w c s from None =
    (n : ℕ) → stores G (hosted h) (running G (hosted h)) Endless instance (options_of p) target from.answers steps (standing w instance c s) (cost steps + n) ≡ Over [] Trapped

abbrev pub StoresByArea : {S : Type 0} → HostStep S → Type 0
StoresByArea {S} h =
    (G : Group) (instance : ℕ) (p : Area) → IsRealloc p.layout p.body → (target : ℕ) (steps : List Step) → CanAskAll steps → (w : World S) (c : Config ℕ) (s : S) (from : Stored) → HasArea p c.store from →
    StoredOrTrapped h G instance p target steps w c s from (stored_in p.layout target from steps)

-- ---- meanwhile

-- It is stored while calls are in progress, or it traps. A request begins without them, and the store is then without them.
pub record StoresMeanwhile {S : Type 0} (h : HostStep S) (G : Group) (instance : ℕ) (p : Area) (target : ℕ) (steps : List Step) (w : World S) (c : Config ℕ) (s : S) (from to : Stored) : Type 0 where
  pub store : State
  pub same : SameBut c.store store
  pub room : HasRoom p store to
  pub quiet : IsQuiet c.store → IsQuiet store
  pub goes : (n : ℕ) → stores G (hosted h) (running G (hosted h)) Endless instance (options_of p) target from.answers steps (standing w instance c s) (cost steps + n) ≡ Next [] n (standing w instance (with_store c store) s) to.answers

abbrev pub MeanwhileOrTrapped : {S : Type 0} (h : HostStep S) (G : Group) (instance : ℕ) (p : Area) (target : ℕ) (steps : List Step) (w : World S) (c : Config ℕ) (s : S) (from : Stored) → Option Stored → Type 0
MeanwhileOrTrapped h G instance p target steps w c s from (Some to) = StoresMeanwhile h G instance p target steps w c s from to
MeanwhileOrTrapped h G instance p target steps w c s from None =
    (n : ℕ) → stores G (hosted h) (running G (hosted h)) Endless instance (options_of p) target from.answers steps (standing w instance c s) (cost steps + n) ≡ Over [] Trapped

abbrev pub StoresByRoom : {S : Type 0} → HostStep S → Type 0
StoresByRoom {S} h =
    (G : Group) (instance : ℕ) (p : Area) → IsRealloc p.layout p.body → (target : ℕ) (steps : List Step) → CanAskAll steps → (w : World S) (c : Config ℕ) (s : S) (from : Stored) → HasRoom p c.store from →
    MeanwhileOrTrapped h G instance p target steps w c s from (stored_in p.layout target from steps)

-- ---- lowering

-- flat values go where the steps of storing left answers; meanwhile the instance is closed
pub record LowersSo {S : Type 0} (h : HostStep S) (G : Group) (instance : ℕ) (p : Area) (target : ℕ) (low : Lowered) (w : World S) (c : Config ℕ) (s : S) (from to : Stored) : Type 0 where
  pub store : State
  pub same : SameBut c.store store
  pub area : HasArea p store to
  pub goes : (n : ℕ) →
      lowers_closed G (hosted h) (running G (hosted h)) Endless instance (options_of p) target low (standing w instance c s) (cost low.steps + n)
      ≡ Next [] n (standing w instance (record { store = store; map = c.map; entered = c.entered; closed = false }) s) (map (flat_word to.answers) low.flats)

abbrev pub LoweredOrTrapped : {S : Type 0} (h : HostStep S) (G : Group) (instance : ℕ) (p : Area) (target : ℕ) (low : Lowered) (w : World S) (c : Config ℕ) (s : S) (from : Stored) → Option Stored → Type 0
LoweredOrTrapped h G instance p target low w c s from (Some to) = LowersSo h G instance p target low w c s from to
LoweredOrTrapped h G instance p target low w c s from None =
    (n : ℕ) → lowers_closed G (hosted h) (running G (hosted h)) Endless instance (options_of p) target low (standing w instance c s) (cost low.steps + n) ≡ Over [] Trapped

abbrev pub LowersByArea : {S : Type 0} → HostStep S → Type 0
LowersByArea {S} h =
    (G : Group) (instance : ℕ) (p : Area) → IsRealloc p.layout p.body → (target : ℕ) (low : Lowered) → CanAskAll low.steps → (w : World S) (c : Config ℕ) (s : S) (from : Stored) → from.answers ≡ [] → HasArea p c.store from →
    LoweredOrTrapped h G instance p target low w c s from (stored_in p.layout target from low.steps)

-- lowered while calls are in progress
pub record LowersMeanwhile {S : Type 0} (h : HostStep S) (G : Group) (instance : ℕ) (p : Area) (target : ℕ) (low : Lowered) (w : World S) (c : Config ℕ) (s : S) (from to : Stored) : Type 0 where
  pub store : State
  pub same : SameBut c.store store
  pub room : HasRoom p store to
  pub quiet : IsQuiet c.store → IsQuiet store
  pub goes : (n : ℕ) →
      lowers_closed G (hosted h) (running G (hosted h)) Endless instance (options_of p) target low (standing w instance c s) (cost low.steps + n)
      ≡ Next [] n (standing w instance (record { store = store; map = c.map; entered = c.entered; closed = false }) s) (map (flat_word to.answers) low.flats)

abbrev pub LoweredMeanwhile : {S : Type 0} (h : HostStep S) (G : Group) (instance : ℕ) (p : Area) (target : ℕ) (low : Lowered) (w : World S) (c : Config ℕ) (s : S) (from : Stored) → Option Stored → Type 0
LoweredMeanwhile h G instance p target low w c s from (Some to) = LowersMeanwhile h G instance p target low w c s from to
LoweredMeanwhile h G instance p target low w c s from None =
    (n : ℕ) → lowers_closed G (hosted h) (running G (hosted h)) Endless instance (options_of p) target low (standing w instance c s) (cost low.steps + n) ≡ Over [] Trapped

abbrev pub LowersByRoom : {S : Type 0} → HostStep S → Type 0
LowersByRoom {S} h =
    (G : Group) (instance : ℕ) (p : Area) → IsRealloc p.layout p.body → (target : ℕ) (low : Lowered) → CanAskAll low.steps → (w : World S) (c : Config ℕ) (s : S) (from : Stored) → from.answers ≡ [] → HasRoom p c.store from →
    LoweredMeanwhile h G instance p target low w c s from (stored_in p.layout target from low.steps)
