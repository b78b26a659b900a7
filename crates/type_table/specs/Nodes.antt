-- What is kept of a type in a table, and how it is found.
use Rattle.std.specs.Prelude.{◌≡◌, ℕ, ◌<◌, List, [], ◌∷◌, ◌++◌, map, length, Contains, false, ⊤, slice_get, Option as Opt, Some, None}
use Rattle.std.specs.BTreeMap.{BTreeMap, get}
use Rattle.std.specs.Ordering.{nat_cmp}
use Rattle.wit_types.specs.Plain.{Plain}
use Rattle.comp_facts.specs.Keys.{key_of}
use Rattle.type_table.specs.Slots.{Part}
use Rattle.type_table.specs.Tables.{Placed, Types, trees, needs_place, IsSound, HasAnswer}
use Rattle.type_table.specs.declared.table.Node.{Node}

abbrev pub placed : Node → Placed
placed node = record { tree = node.known.value; links = node.links }

abbrev pub types_in : List Node → Types
types_in nodes = map placed nodes

-- places that lie below this one
abbrev pub IsBelow : ℕ → Opt ℕ → Type 0
IsBelow at None = ⊤
IsBelow at (Some other) = other < at

abbrev pub AreBelow : ℕ → List (Opt ℕ) → Type 0
AreBelow at [] = ⊤
AreBelow at (link ∷ links) = IsBelow at link × AreBelow at links

abbrev pub link_or : Opt (Opt ℕ) → Opt ℕ
link_or None = None
link_or (Some link) = link

-- the place of the part at an index
abbrev pub link_at : List (Opt ℕ) → ℕ → Opt ℕ
link_at links index = link_or (slice_get links index)

-- the type of the part at an index, if it has one
abbrev pub type_in : Opt Part → Opt Plain
type_in None = None
type_in (Some part) = part.1

abbrev pub type_at : List Part → ℕ → Opt Plain
type_at parts index = type_in (slice_get parts index)

abbrev pub count_types : Opt Plain → ℕ
count_types None = 0
count_types (Some ty) = 1

abbrev pub IsKeyOf : Opt Plain → ℕ → Type 0
IsKeyOf None key = ⊤
IsKeyOf (Some ty) key = key ≡ key_of ty

-- the keys of the parts with types
abbrev pub part_keys : Opt Plain → List ℕ → List ℕ
part_keys None keys = keys
part_keys (Some ty) keys = key_of ty ∷ keys

abbrev pub slot_keys : List Part → List ℕ
slot_keys [] = []
slot_keys (part ∷ parts) = part_keys part.1 (slot_keys parts)

-- the types of all parts stand in a table
abbrev pub HasSlots : Types → List Part → Type 0
HasSlots types [] = ⊤
HasSlots types (part ∷ parts) = HasAnswer types part.1 × HasSlots types parts

-- the type stands at this place
abbrev pub IsAt : List Plain → Plain → Opt ℕ → Type 0
IsAt tys ty None = ⊥
IsAt tys ty (Some at) = slice_get tys at ≡ Some ty

-- the place where the type stands, or none where it needs none
abbrev pub IsPlaceOf : List Plain → Plain → Opt ℕ → Type 0
IsPlaceOf tys ty None = needs_place ty ≡ false
IsPlaceOf tys ty (Some at) = slice_get tys at ≡ Some ty

-- no type stands at two places
abbrev pub AreApart : List Plain → Type 0
AreApart tys = (at other : ℕ) (ty : Plain) → slice_get tys at ≡ Some ty → slice_get tys other ≡ Some ty → at ≡ other

-- this is the type, and a table has it
abbrev pub IsThere : Types → Plain → Plain → Type 0
IsThere types ty same = (same ≡ ty) × Contains (trees types) ty

-- a table has each of these types
abbrev pub HasEach : Types → List (Opt Plain) → Type 0
HasEach types [] = ⊤
HasEach types (ty ∷ tys) = HasAnswer types ty × HasEach types tys

-- there are more types after these, and if the places in them are right, so are those in these
pub record IsLonger (old new : Types) : Type 0 where
  pub more : Types
  pub is : new ≡ old ++ more
  pub back : IsSound new → IsSound old

-- the types of a table, each after its parts, and where the type of each key stands
pub record AreNodes (types : Types) (places : BTreeMap ℕ ℕ) : Type 0 where
  pub below : (at : ℕ) (p : Placed) → slice_get types at ≡ Some p → AreBelow at p.links
  pub within : (key at : ℕ) → get nat_cmp places key ≡ Some at → at < length types
  pub new : (key at : ℕ) (ty : Plain) → get nat_cmp places key ≡ None → slice_get (trees types) at ≡ Some ty → key_of ty ≡ key → ⊥
  pub one : (key at other : ℕ) (ty : Plain) → get nat_cmp places key ≡ Some at → slice_get (trees types) other ≡ Some ty → key_of ty ≡ key → other ≡ at
