-- What the functions of the stubs module do, in a store in which it was instantiated over the memory of a state module.
use Rattle.std.specs.Prelude.{◌≡◌, ℕ, suc, ◌+◌, ◌<◌, List, [], ◌∷◌, ◌++◌, Bool, true, Option, Some, None, map, length, slice_get, Ok}
use Rattle.core_store.specs.declared.value.StoreFunc.{StoreFunc}
use Rattle.core_store.specs.declared.value.StoreFunc.TheVariants.{Outside}
use Rattle.core_store.specs.State.{State as StoreState, can_enter}
use Rattle.core_store.specs.Config.{spaces_of}
use Rattle.core_instance.specs.declared.external.Extern.{Extern}
use Rattle.core_instance.specs.declared.external.Extern.TheVariants.{Func, Memory}
use Rattle.core_instance.specs.Instantiation.{instantiated}
use Rattle.adapter_code.specs.declared.layout.Layout.{Layout}
use Rattle.adapter_code.specs.Code.{code_of}
use Rattle.adapter_code.specs.Run.{State, local_width}
use Rattle.adapter_compile.specs.Handles.{Numbers, makes_type, HasCalls}
use Rattle.adapter_compile.specs.Does.{Home, IsInRange, BeginsAsZeros}
use Rattle.adapter_state.specs.declared.parts.Presence.{Presence}
use Rattle.adapter_state.specs.declared.parts.Presence.TheVariants.{Absent, Own, Host}
use Rattle.adapter_stubs.specs.declared.stub.HostFunc.{HostFunc}
use Rattle.adapter_stubs.specs.declared.stub.Stub.{Stub}
use Rattle.adapter_stubs.specs.Widths.{stub_widths}
use Rattle.adapter_stubs.specs.Stubs.{calls_in, stubs_of, AreStubs}
use Rattle.adapter_stubs.specs.Calls.{StubDoes}
use Rattle.adapter_bytes.specs.StateWorks.{AreDrops, Later}

-- ---- what is imported

-- for each kind of the world, in order, the embedder's function by which its handles are made
abbrev pub AreNews : Numbers → List StoreFunc → ℕ → List Presence → List Extern → Type 0
AreNews numbers functions kind [] [] = Unit {0}
AreNews numbers functions kind (Absent ∷ ps) is = AreNews numbers functions (suc kind) ps is
AreNews numbers functions kind (Own ∷ ps) (Func place ∷ is) = (slice_get functions place ≡ Some (Outside makes_type (numbers.makes kind))) × AreNews numbers functions (suc kind) ps is
AreNews numbers functions kind (Host ∷ ps) (Func place ∷ is) = (slice_get functions place ≡ Some (Outside makes_type (numbers.makes kind))) × AreNews numbers functions (suc kind) ps is
AreNews numbers functions kind ps is = ⊥

-- the host's function of a stub, if it asks one, by its number
abbrev pub IsHostOf : (ℕ → ℕ) → List StoreFunc → Option HostFunc → List Extern → (List Extern → Type 0) → Type 0
IsHostOf asks functions None is rest = rest is
IsHostOf asks functions (Some h) (Func place ∷ is) rest = (slice_get functions place ≡ Some (Outside h.flat (asks h.function))) × rest is
IsHostOf asks functions (Some h) is rest = ⊥

-- those of all stubs, in order
abbrev pub AreHosts : (ℕ → ℕ) → List StoreFunc → List Stub → List Extern → Type 0
AreHosts asks functions [] is = is ≡ []
AreHosts asks functions (s ∷ ss) is = IsHostOf asks functions s.host is (AreHosts asks functions ss)

-- a memory of the store, a realloc, and these functions of the embedder
pub record AreGiven (numbers : Numbers) (asks : ℕ → ℕ) (kinds : List Presence) (stubs : List Stub) (s : StoreState) (memory : ℕ) (imports : List Extern) : Type 0 where
  pub realloc : ℕ
  pub news : List Extern
  pub drops : List Extern
  pub hosts : List Extern
  pub whole : imports ≡ Memory memory ∷ Func realloc ∷ (news ++ (drops ++ hosts))
  pub there : memory < length s.memories
  pub are_news : AreNews numbers s.functions 0 kinds news
  pub are_drops : AreDrops numbers s.functions 0 kinds drops
  pub are_hosts : AreHosts asks s.functions stubs hosts

-- ---- what its functions do

-- the functions from a place on, one for each stub, over one memory: whatever that holds, and whatever the handles and locals are
abbrev pub StubsWork : List Presence → List Stub → Numbers → (ℕ → ℕ) → Home → ℕ → Type 0
StubsWork kinds stubs numbers asks home first =
    (k : ℕ) (s : Stub) → slice_get stubs k ≡ Some s → HasCalls (calls_in kinds) (code_of s.before.items) → HasCalls (calls_in kinds) (code_of s.after.items) →
    (t : State) (made : List Bool) → map local_width t.locals ≡ stub_widths s → BeginsAsZeros (length s.flat.params) t.locals → IsInRange t →
    StubDoes numbers asks home (first + k) s t made

-- so it is in each later store
abbrev pub StubsDo : Type 0
StubsDo =
    (kinds : List Presence) (l : Layout) (stubs : List Stub) (numbers : Numbers) (asks : ℕ → ℕ) (s t : StoreState) (memory : ℕ) (imports : List Extern) →
    AreStubs stubs → can_enter s ≡ true → AreGiven numbers asks kinds stubs s memory imports → instantiated s (stubs_of kinds l stubs) imports ≡ Ok t →
    (u : StoreState) → Later t u (length s.instances) →
    StubsWork kinds stubs numbers asks (record { spaces = spaces_of t.instances (length s.instances); store = u; memory = memory }) (length s.functions)
