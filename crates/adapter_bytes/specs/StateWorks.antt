-- What the functions of the state module do, in a store in which it was instantiated.
use Rattle.std.specs.Prelude.{◌≡◌, ◌≢◌, ℕ, suc, ◌+◌, ◌<◌, ◌≤◌, ◌^◌, List, [], ◌∷◌, Bool, true, false, Option, Some, None, map, length, take, slice_get, Ok}
use Rattle.std.specs.List.{All}
use Rattle.slot_tables.specs.Places.{entry_of as entry_in}
use Rattle.handle_space.specs.HandleMap.{HandleMap}
use Rattle.core_store.specs.declared.value.CoreValue.TheVariants as values
use Rattle.core_store.specs.declared.value.CoreSpaces.{CoreSpaces}
use Rattle.core_store.specs.declared.value.StoreFunc.{StoreFunc}
use Rattle.core_store.specs.declared.value.StoreFunc.TheVariants.{Outside}
use Rattle.core_store.specs.State.{State as StoreState, memory_at, can_enter}
use Rattle.core_store.specs.Config.{Reply, Done, spaces_of}
use Rattle.core_store.specs.Eval.{eval}
use Rattle.core_instance.specs.declared.external.Extern.{Extern}
use Rattle.core_instance.specs.declared.external.Extern.TheVariants.{Func}
use Rattle.core_instance.specs.Instantiation.{instantiated}
use Rattle.adapter_code.specs.declared.layout.Layout.{Layout}
use Rattle.adapter_code.specs.declared.statement.Width.{Width}
use Rattle.adapter_code.specs.declared.statement.Width.TheVariants.{Narrow, Broad}
use Rattle.adapter_code.specs.declared.state.Effect.{Effect}
use Rattle.adapter_code.specs.Layout.{Fits, table_at, transfer_at}
use Rattle.adapter_code.specs.Run.{RoutineRun}
use Rattle.adapter_compile.specs.Handles.{Numbers, drops_type, IsTable as IsHandleTable}
use Rattle.adapter_compile.specs.Does.{Home, DoesCalled}
use Rattle.table_bytes.specs.declared.entry.Entry.{Entry}
use Rattle.table_bytes.specs.Table.{places_of, IsTable}
use Rattle.adapter_transfer.specs.Transfer.{IsUsed, with_end, Gives, result_values}
use Rattle.adapter_state.specs.declared.parts.Presence.{Presence}
use Rattle.adapter_state.specs.declared.parts.Presence.TheVariants.{Absent, Own, Host}
use Rattle.adapter_state.specs.declared.parts.Posts.{Posts}
use Rattle.adapter_state.specs.Destructor.{Destroys, destructor_state}
use Rattle.adapter_state.specs.State.{each_kind, host_kind, destructor_of, state_of}
use Rattle.adapter_bytes.specs.Opening.{Opens}

-- ---- where the instance stands

-- for each kind that the host has, in order, the embedder's function by which its handles are dropped
abbrev pub AreDrops : Numbers → List StoreFunc → ℕ → List Presence → List Extern → Type 0
AreDrops numbers functions kind [] [] = Unit {0}
AreDrops numbers functions kind (Absent ∷ ps) is = AreDrops numbers functions (suc kind) ps is
AreDrops numbers functions kind (Own ∷ ps) is = AreDrops numbers functions (suc kind) ps is
AreDrops numbers functions kind (Host ∷ ps) (Func place ∷ is) = (slice_get functions place ≡ Some (Outside drops_type (numbers.drops kind))) × AreDrops numbers functions (suc kind) ps is
AreDrops numbers functions kind ps is = ⊥

-- a store in which what was there still stands, and a call may begin
pub record Later (t u : StoreState) (instance : ℕ) : Type 0 where
  pub functions : (i : ℕ) (f : StoreFunc) → slice_get t.functions i ≡ Some f → slice_get u.functions i ≡ Some f
  pub own : spaces_of u.instances instance ≡ spaces_of t.instances instance
  pub memories : length t.memories ≤ length u.memories
  pub enters : can_enter u ≡ true

-- ---- what its functions do

-- how many functions stand before a kind's destructor, and before the post-returns
abbrev pub destructor_at : List Presence → Layout → ℕ → ℕ
destructor_at kinds l kind = 1 + length (each_kind (destructor_of kinds l) 0 (take kind kinds))

abbrev pub posts_at : List Presence → Layout → ℕ
posts_at kinds l = 1 + length (each_kind (destructor_of kinds l) 0 kinds)

-- whether there is a post-return of a flat result, and how many stand before it
abbrev pub has_post : Posts → Option Width → Bool
has_post posts None = posts.bare
has_post posts (Some Narrow) = posts.narrow
has_post posts (Some Broad) = posts.broad

abbrev pub one_if : Bool → ℕ
one_if true = 1
one_if false = 0

abbrev pub before_post : Posts → Option Width → ℕ
before_post posts None = 0
before_post posts (Some Narrow) = one_if posts.bare
before_post posts (Some Broad) = one_if posts.bare + one_if posts.narrow

-- the destructor at a place of the store, of the table at `base`, called with a place that is used
abbrev pub DestroysAt : Option ℕ → ℕ → Numbers → Home → ℕ → Type 0
DestroysAt host base numbers home f =
    (capacity free at : ℕ) (e : Entry) (m : List ℕ) (h : HandleMap ℕ) (es : List Effect) (made : List Bool) →
    at < 2 ^ 32 → All (λ b. b < 256) m → IsHandleTable h → IsTable m base capacity free → slice_get (map entry_in (places_of m base capacity)) at ≡ Some (Some e) →
    (run : RoutineRun) × Destroys host base capacity free at e (destructor_state at m h es) run × DoesCalled numbers home f 1 (destructor_state at m h es) made run

-- the functions from a place on, over one memory; a global holds the end of the area's used part
pub record StateWorks (kinds : List Presence) (l : Layout) (posts : Posts) (numbers : Numbers) (spaces : CoreSpaces) (u : StoreState) (first memory : ℕ) : Type 0 where
  pub realloc : (global at : ℕ) → IsUsed l spaces u global at → (old old_len align len : ℕ) → len < 2 ^ 32 → (rs : List Reply) (n : ℕ) →
      eval u first (values.I32 old ∷ values.I32 old_len ∷ values.I32 align ∷ values.I32 len ∷ []) rs (19 + n) ≡ Gives l u global at len n
  pub destructors : (kind : ℕ) (p : Presence) → slice_get kinds kind ≡ Some p → p ≢ Absent →
      DestroysAt (host_kind kind p) (table_at l kind) numbers (record { spaces = spaces; store = u; memory = memory }) (first + destructor_at kinds l kind)
  pub post_returns : (flat : Option Width) → has_post posts flat ≡ true → (global at : ℕ) → IsUsed l spaces u global at → (v : ℕ) (rs : List Reply) (n : ℕ) →
      eval u (first + (posts_at kinds l + before_post posts flat)) (result_values flat v) rs (2 + n) ≡ Done [] (with_end u global (transfer_at l)) n

-- so it is in each later store; and once the module is instantiated, the used part is empty, and the memory is as it opens
pub record StateStands (kinds : List Presence) (l : Layout) (image : List ℕ) (posts : Posts) (numbers : Numbers) (s t : StoreState) : Type 0 where
  pub opens : Opens l image (memory_at t (length s.memories))
  pub begins : IsUsed l (spaces_of t.instances (length s.instances)) t (length s.globals) (transfer_at l)
  pub works : (u : StoreState) → Later t u (length s.instances) → StateWorks kinds l posts numbers (spaces_of t.instances (length s.instances)) u (length s.functions) (length s.memories)

abbrev pub StateDoes : Type 0
StateDoes =
    (kinds : List Presence) (l : Layout) (image : List ℕ) (posts : Posts) (numbers : Numbers) (s t : StoreState) (imports : List Extern) →
    length kinds ≤ 14 → Fits l → can_enter s ≡ true → AreDrops numbers s.functions 0 kinds imports → instantiated s (state_of kinds l image posts) imports ≡ Ok t →
    StateStands kinds l image posts numbers s t
