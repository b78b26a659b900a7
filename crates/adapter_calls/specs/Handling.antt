-- What core code of an adapter's instance asks for handles, as canonical functions of its group answer it (Component Model,
-- CanonicalABI.md, `canon resource.new` and `canon resource.drop`).
use Rattle.std.specs.Prelude.{◌≡◌, ℕ, ◌+◌, ◌<◌, List, [], ◌∷◌, ◌++◌, length, map, Option, Some, None, true, false}
use Rattle.std.specs.Option.{option_map}
use Rattle.core_store.specs.State.{State}
use Rattle.core_store.specs.Config.{Reply}
use Rattle.core_store.specs.Laws.{Further}
use Rattle.handle_space.specs.HandleMap.{Entry, HandleMap}
use Rattle.adapter_code.specs.declared.state.Effect.{Effect}
use Rattle.adapter_code.specs.declared.state.Effect.TheVariants.{Made, Dropped}
use Rattle.adapter_code.specs.Run.{own_resource}
use Rattle.adapter_compile.specs.Handles.{Numbers}
use Rattle.host_port.specs.Hosts.{HostStep, Loss}
use Rattle.comp_worlds.specs.Acts.{seen_before}
use Rattle.comp_worlds.specs.Groups.{Endless, ResourceNew, ResourceDrop, Group, Config, World}
use Rattle.comp_worlds.specs.Calls.{owns}
use Rattle.comp_worlds.specs.Hosts.{hosted}
use Rattle.comp_frames.specs.Running.{Rest, IsRest, going}
use Rattle.adapter_calls.specs.Instance.{standing, with_both}
use Rattle.adapter_calls.specs.Turns.{AsksInTurn}

-- ---- kinds and the group's numbers

abbrev pub IsKind : ℕ → Type 0
IsKind kind = kind < 14

-- By these numbers the instance makes and drops handles: of each kind it makes those of a resource of its own, and drops those of an
-- import's. Each resource of a kind has its number in the group.
pub record KnowsKinds (G : Group) (instance : ℕ) (numbers : Numbers) (to : ℕ → ℕ) : Type 0 where
  pub makes : (kind : ℕ) → IsKind kind → G.canons instance (numbers.makes kind) ≡ Some (ResourceNew (to (own_resource kind)))
  pub drops : (kind : ℕ) → IsKind kind → G.canons instance (numbers.drops kind) ≡ Some (ResourceDrop (to kind))
  pub own : (kind : ℕ) → IsKind kind → owns G instance (to (own_resource kind)) ≡ true
  pub imported : (kind : ℕ) → IsKind kind → G.owner (to kind) ≡ None
  pub once : (r s : ℕ) → to r ≡ to s → r ≡ s
  -- numbers of no kind are those of no canonical function
  pub beyond : (kind : ℕ) → (IsKind kind → ⊥) → (G.canons instance (numbers.makes kind) ≡ None) × (G.canons instance (numbers.drops kind) ≡ None)

-- handles of the same, by the group's numbers
abbrev pub entry_to : (ℕ → ℕ) → Entry ℕ → Entry ℕ
entry_to to e = record { resource = to e.resource; rep = e.rep; owned = e.owned; lent = e.lent }

abbrev pub map_to : (ℕ → ℕ) → HandleMap ℕ → HandleMap ℕ
map_to to m = record { entries = map (option_map (entry_to to)) m.entries; freed = m.freed }

-- effects on handles of kinds
abbrev pub OfKinds : List Effect → Type 0
OfKinds [] = Unit {0}
OfKinds (Made kind rep index ∷ es) = IsKind kind × OfKinds es
OfKinds (Dropped kind rep index ∷ es) = IsKind kind × OfKinds es

-- no handle is borrowed
abbrev pub AreOwned : List (Option (Entry ℕ)) → Type 0
AreOwned [] = Unit {0}
AreOwned (None ∷ es) = AreOwned es
AreOwned (Some e ∷ es) = (e.owned ≡ true) × AreOwned es

-- ---- what a host is told

abbrev pub and_lost : {S : Type 0} → Loss S → (S → Loss S) → Loss S
and_lost l go = record { seen = l.seen ++ (go l.next).seen; next = (go l.next).next }

-- the handles that are dropped, in order
abbrev pub lost : {S : Type 0} → HostStep S → Group → (ℕ → ℕ) → List Effect → S → Loss S
lost h G to [] s = record { seen = []; next = s }
lost h G to (Made kind rep index ∷ es) s = lost h G to es s
lost h G to (Dropped kind rep index ∷ es) s = and_lost (h.drop s (G.imported (to kind)) rep) (lost h G to es)

-- ---- what is asked and answered

-- What is asked in turn is answered, a step for each question: core code goes on from where the last answer leaves it, with the handles
-- that the effects leave, over a host that was told of those that are dropped.
pub record GoesOnAfter {S : Type 0} (h : HostStep S) (G : Group) (instance : ℕ) (to : ℕ → ℕ) (start : ℕ) (X last : Rest) (table table' : HandleMap ℕ) (es : List Effect) (w : World S) (c : Config ℕ) (store : State) (s : S) : Type 0 where
  pub store' : State
  pub goes : (n : ℕ) →
      going G (hosted h) Endless instance X (standing w instance (with_both c store (map_to to table)) s) (start + (length es + n))
      ≡ seen_before (lost h G to es s).seen (going G (hosted h) Endless instance last (standing w instance (with_both c store' (map_to to table')) (lost h G to es s).next) (start + n))

-- while the instance is not closed
abbrev pub HandlesAnswer : {S : Type 0} → HostStep S → Type 0
HandlesAnswer {S} h =
    (G : Group) (instance : ℕ) (numbers : Numbers) (to : ℕ → ℕ) → KnowsKinds G instance numbers to → (w : World S) (c : Config ℕ) → c.closed ≡ false →
    (start : ℕ) (X last : Rest) (table table' : HandleMap ℕ) (es : List Effect) (store : State) (s : S) → IsRest X → ((replies : List Reply) (n d : ℕ) → Further d (X replies n) (X replies (d + n))) → AreOwned table.entries → OfKinds es →
    AsksInTurn numbers start X table es (λ Y g. (Y ≡ last) × (g ≡ table')) → GoesOnAfter h G instance to start X last table table' es w c store s
