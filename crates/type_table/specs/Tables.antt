-- What a table of value types holds: their trees, in the order in which they came, and for each part of a type the place of the part's
-- type. No two types in it have one key, so what is said to be in a table is found there by its key.
use Rattle.std.specs.Prelude.{◌≡◌, ℕ, List, [], ◌∷◌, ◌++◌, map, Contains, IsTrue, Bool, true, false, ⊤, slice_get, Option as Opt, Some, None}
use Rattle.wit_types.specs.Plain.{Plain, Parts, PlainFunc, ListType, RecordType, VariantType, FlagsType, End as NoParts, More as Part, Bare}
use Rattle.comp_types.specs.Items.{Item, Kind, Entries, FuncItem, InstanceItem, KindItem, ResourceKind, ValueKind, FuncKind, InstanceKind, End, More}
use Rattle.type_table.specs.Slots.{Part as SlotPart, slots_of}

-- a type, and for each of its parts the place of the part's type, or none
pub record Placed : Type 0 where
  pub tree : Plain
  pub links : List (Opt ℕ)

abbrev pub Types : Type 0
Types = List Placed

abbrev pub trees : Types → List Plain
trees types = map (λ (p : Placed). p.tree) types

-- all but primitives and handles, which are judged at once, stand in a table
abbrev pub needs_place : Plain → Bool
needs_place (ListType item) = true
needs_place (RecordType form fields) = true
needs_place (VariantType form cases) = true
needs_place (FlagsType labels) = true
needs_place _ = false

-- at this place stands the part's type; there is none where the type needs none, or where the part has no type
abbrev pub Leads : List Plain → Opt ℕ → Opt Plain → Type 0
Leads tys None None = ⊤
Leads tys None (Some ty) = needs_place ty ≡ false
Leads tys (Some at) None = ⊥
Leads tys (Some at) (Some ty) = slice_get tys at ≡ Some ty

-- for each part a place of its type, or none
abbrev pub AreLinks : List Plain → List (Opt ℕ) → List SlotPart → Type 0
AreLinks tys [] [] = ⊤
AreLinks tys (link ∷ links) (part ∷ parts) = Leads tys link part.1 × AreLinks tys links parts
AreLinks tys _ _ = ⊥

-- each place is that of the part's type: so it is while what is added has its parts in the table
pub record IsSound (types : Types) : Type 0 where
  pub linked : (at : ℕ) (p : Placed) → slice_get types at ≡ Some p → AreLinks (trees types) p.links (slots_of p.tree)

abbrev pub Has : Types → Plain → Type 0
Has types ty = IsSound types × (IsTrue (needs_place ty) → Contains (trees types) ty)

abbrev pub HasParts : Types → Parts → Type 0
HasParts types NoParts = ⊤
HasParts types (Part name ty rest) = Has types ty × HasParts types rest
HasParts types (Bare name rest) = HasParts types rest

-- the parts of a type, of which it is made
abbrev pub HasOwnParts : Types → Plain → Type 0
HasOwnParts types (ListType item) = Has types item
HasOwnParts types (RecordType form fields) = IsSound types × HasParts types fields
HasOwnParts types (VariantType form cases) = IsSound types × HasParts types cases
HasOwnParts types _ = IsSound types

abbrev pub HasAnswer : Types → Opt Plain → Type 0
HasAnswer types None = ⊤
HasAnswer types (Some ty) = Has types ty

abbrev pub HasFunc : Types → PlainFunc → Type 0
HasFunc types ty = HasParts types ty.params × HasAnswer types ty.answer

-- each value type that stands in an item
abbrev mutual
  pub HasItem : Types → Item → Type 0
  HasItem types (FuncItem ty) = HasFunc types ty
  HasItem types (InstanceItem entries) = HasEntries types entries
  HasItem types (KindItem kind) = HasKind types kind

  pub HasKind : Types → Kind → Type 0
  HasKind types (ResourceKind r) = ⊤
  HasKind types (ValueKind ty) = Has types ty
  HasKind types (FuncKind ty) = HasFunc types ty
  HasKind types (InstanceKind own entries) = HasEntries types entries

  pub HasEntries : Types → Entries → Type 0
  HasEntries types End = ⊤
  HasEntries types (More name item rest) = HasItem types item × HasEntries types rest

-- it only grew
pub record Grew (old new : Types) : Type 0 where
  pub sound : IsSound old → IsSound new
  pub more : Types
  pub is : new ≡ old ++ more
