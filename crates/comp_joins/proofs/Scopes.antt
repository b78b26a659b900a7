-- An outer alias names a type whose resources are known: within the component each scope's are, and over its border there are none.
-- A component that it names knows what it knew.
use Rattle.std.proofs.Common.{◌≡◌, ◌⊎◌, inl, inr, ℕ, zero, suc, ◌<◌, ◌≤◌, ◌||◌, not, List, [], ◌∷◌, length, Bool, true, false, Option, Some, None, refl, arith}
use Rattle.std.specs.Prelude.{slice_get, nat_lt}
use Rattle.std.proofs.lemmas.Bool.{false≢true, and_parts}
use Rattle.comp_types.specs.Items.{InstanceItem, KindItem}
use Rattle.comp_types.specs.GivenResources.{named_in, named_in_kind}
use Rattle.comp_types.specs.Spaces.{Space, TypeEntry, NestedComponent}
use Rattle.comp_types.specs.Rules.{if_there, is_filled, leaves_component, names_none, type_stays}
use Rattle.comp_inside.specs.Linked.{Each}
use Rattle.comp_joins.proofs.Names.{each_then, Apart, KindNames}
use Rattle.comp_joins.proofs.Described.{Every, every_then, every_get, IfSome, Wider, item_wider, item_carried, Brings, IsOwn, ComponentNames, component_wider, Knows}
use Rattle.comp_joins.proofs.Nested.{brings_own}

-- ---- the scopes around a component, as it begins

-- of what is named over the border only types without resources count
abbrev pub Outside : (ℕ → Type 0) → ℕ → Space → Type 0
Outside J base t = Every (λ (e : TypeEntry). names_none e ≡ true → KindNames J base e.kind) t.types × Every (ComponentNames J base) t.components

abbrev pub Around : (ℕ → Type 0) → ℕ → List Space → Type 0
Around J base around = Every (Outside J base) around

outside_wider : (J K : ℕ → Type 0) (base n : ℕ) → Wider J K base n → (t : Space) → Outside J base t → Outside K n t
outside_wider J K base n w t h = (
  every_then (λ (e : TypeEntry). names_none e ≡ true → KindNames J base e.kind) (λ (e : TypeEntry). names_none e ≡ true → KindNames K n e.kind) (λ e f none. item_wider J K base n w (KindItem e.kind) (f none)) t.types h.0,
  every_then (ComponentNames J base) (ComponentNames K n) (component_wider J K base n w) t.components h.1,
)

-- one scope more
pub around_more : (J P : ℕ → Type 0) (base : ℕ) (s : Space) (around : List Space) → Wider J P base s.next → Knows true base P s → Around J base around → Around P s.next (s ∷ around)
around_more J P base s around w h k = (
  (every_then (λ (e : TypeEntry). KindNames P s.next e.kind) (λ (e : TypeEntry). names_none e ≡ true → KindNames P s.next e.kind) (λ e kind none. kind) s.types h.kinds, h.nested),
  every_then (Outside J base) (Outside P s.next) (outside_wider J P base s.next w) around k,
)

-- ---- what an outer alias names

-- the type at an index of a scope, and the component
abbrev pub type_in : Option Space → ℕ → Option TypeEntry
type_in None i = None
type_in (Some scope) i = slice_get scope.types i

abbrev pub component_in : Option Space → ℕ → Option NestedComponent
component_in None i = None
component_in (Some scope) i = slice_get scope.components i

-- by rule 8
abbrev pub Stays : List Space → ℕ → ℕ → Type 0
Stays scopes count i = (not (leaves_component scopes count) || if_there (λ (scope : Space). if_there names_none (slice_get scope.types i)) (slice_get scopes count)) ≡ true

pub stays_of : (scopes : List Space) (count i : ℕ) → type_stays scopes count i ≡ true → Stays scopes count i
stays_of scopes count i h = (and_parts (nat_lt count (length scopes)) (not (leaves_component scopes count) || if_there (λ (scope : Space). if_there names_none (slice_get scope.types i)) (slice_get scopes count)) h).1

abbrev pub Reach : (ℕ → Type 0) → ℕ → List Space → Type 0
Reach P n scopes = (count i : ℕ) → Stays scopes count i → IfSome (λ (e : TypeEntry). KindNames P n e.kind) (type_in (slice_get scopes count) i)

abbrev pub ReachComponents : (ℕ → Type 0) → ℕ → List Space → Type 0
ReachComponents P n scopes = (count i : ℕ) → IfSome (ComponentNames P n) (component_in (slice_get scopes count) i)

pub reach_wider : (P Q : ℕ → Type 0) (n n' : ℕ) (scopes : List Space) → Wider P Q n n' → Reach P n scopes → Reach Q n' scopes
reach_wider P Q n n' scopes w reach count i stays = go (type_in (slice_get scopes count) i) (reach count i stays)
  where
    go : (o : Option TypeEntry) → IfSome (λ (e : TypeEntry). KindNames P n e.kind) o → IfSome (λ (e : TypeEntry). KindNames Q n' e.kind) o
    go None k = tt
    go (Some e) k = item_wider P Q n n' w (KindItem e.kind) k

or_second : (b c : Bool) → c ≡ true → (b || c) ≡ true
or_second true c e = refl
or_second false c e = e

-- in a scope of an instance type
inner_stays : (b leaves none : Bool) → (not (b || leaves) || none) ≡ true → (not leaves || none) ≡ true
inner_stays true leaves none h = or_second (not leaves) none h
inner_stays false leaves none h = h

pub reach_inner : (P : ℕ → Type 0) (n : ℕ) (t : Space) (scopes : List Space) → Every (λ (e : TypeEntry). KindNames P n e.kind) t.types → Reach P n scopes → Reach P n (t ∷ scopes)
reach_inner P n t scopes kinds reach zero i stays = every_get (λ (e : TypeEntry). KindNames P n e.kind) t.types i kinds
reach_inner P n t scopes kinds reach (suc count) i stays =
    reach count i (inner_stays t.is_component (leaves_component scopes count) (if_there (λ (scope : Space). if_there names_none (slice_get scope.types i)) (slice_get scopes count)) stays)

none_each : (P : ℕ → Type 0) (rs : List ℕ) → not (is_filled rs) ≡ true → Each P rs
none_each P [] h = tt
none_each P (r ∷ rs) h = absurd (false≢true h)

beyond : (b leaves none : Bool) → b ≡ true → (not (b || leaves) || none) ≡ true → none ≡ true
beyond true leaves none e h = h
beyond false leaves none e h = absurd (false≢true e)

-- in a component: what is known here was known before it, or has a number from its first on
module _ (J P : ℕ → Type 0) (base n : ℕ) (le : base ≤ n) (from : (r : ℕ) → P r → J r ⊎ (base ≤ r)) where
  not_new : (r : ℕ) → r < base → (J r → ⊥) → P r → ⊥
  not_new r less none p = go (from r p)
    where
      go : J r ⊎ (base ≤ r) → ⊥
      go (inl j) = none j
      go (inr more) = omega (arith, less, more)

  type_reached : (e : TypeEntry) → (names_none e ≡ true → KindNames J base e.kind) → names_none e ≡ true → KindNames P n e.kind
  type_reached e h none = item_carried J P base n le (λ r a p. not_new r a.0 a.1 p) (KindItem e.kind) (h none) (none_each P (named_in_kind e.kind) none)

  component_reached : (c : NestedComponent) → ComponentNames J base c → ComponentNames P n c
  component_reached c h =
      (item_carried (λ r. IsOwn c r ⊎ J r) (λ r. IsOwn c r ⊎ P r) base n le new (InstanceItem c.signature.exports) h.0 (each_then (Brings c) (λ r. IsOwn c r ⊎ P r) (λ r b. inl (brings_own c r b)) (named_in c.signature.exports) h.1), h.1)
    where
      new : (r : ℕ) → Apart (λ x. IsOwn c x ⊎ J x) base r → IsOwn c r ⊎ P r → ⊥
      new r a (inl own) = a.1 (inl own)
      new r a (inr p) = not_new r a.0 (λ j. a.1 (inr j)) p

  type_beyond : (o : Option Space) (i : ℕ) → IfSome (Outside J base) o → if_there (λ (scope : Space). if_there names_none (slice_get scope.types i)) o ≡ true → IfSome (λ (e : TypeEntry). KindNames P n e.kind) (type_in o i)
  type_beyond None i h none = tt
  type_beyond (Some scope) i h none = at (slice_get scope.types i) (every_get (λ (e : TypeEntry). names_none e ≡ true → KindNames J base e.kind) scope.types i h.0) none
    where
      at : (o : Option TypeEntry) → IfSome (λ (e : TypeEntry). names_none e ≡ true → KindNames J base e.kind) o → if_there names_none o ≡ true → IfSome (λ (e : TypeEntry). KindNames P n e.kind) o
      at None k none' = tt
      at (Some e) k none' = type_reached e k none'

  component_beyond : (o : Option Space) (i : ℕ) → IfSome (Outside J base) o → IfSome (ComponentNames P n) (component_in o i)
  component_beyond None i h = tt
  component_beyond (Some scope) i h = at (slice_get scope.components i) (every_get (ComponentNames J base) scope.components i h.1)
    where
      at : (o : Option NestedComponent) → IfSome (ComponentNames J base) o → IfSome (ComponentNames P n) o
      at None k = tt
      at (Some c) k = component_reached c k

  pub reach_types : (s : Space) (around : List Space) → s.is_component ≡ true → Every (λ (e : TypeEntry). KindNames P n e.kind) s.types → Around J base around → Reach P n (s ∷ around)
  reach_types s around is kinds h zero i stays = every_get (λ (e : TypeEntry). KindNames P n e.kind) s.types i kinds
  reach_types s around is kinds h (suc count) i stays =
      type_beyond (slice_get around count) i (every_get (Outside J base) around count h)
      (beyond s.is_component (leaves_component around count) (if_there (λ (scope : Space). if_there names_none (slice_get scope.types i)) (slice_get around count)) is stays)

  pub reach_components : (s : Space) (around : List Space) → Every (ComponentNames P n) s.components → Around J base around → ReachComponents P n (s ∷ around)
  reach_components s around nested h zero i = every_get (ComponentNames P n) s.components i nested
  reach_components s around nested h (suc count) i = component_beyond (slice_get around count) i (every_get (Outside J base) around count h)
