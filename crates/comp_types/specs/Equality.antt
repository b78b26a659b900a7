-- When two types are equal. They are equal by structure: each label and each case name counts, in order, and so does each
-- resource; the names of parameters do not, nor does the order of the entries of an instance. In each relation `Meets x y` says
-- that the resource x of the first type may stand where the second type has the resource y.
use Rattle.std.specs.Prelude.{◌≡◌, ℕ, List, Contains, All, Bool, IsTrue, ⊤, ◌⊎◌, Option as Opt, Some, None}
use Rattle.wit_types.specs.Plain.{Plain, Parts, PlainFunc, ListType, RecordType, VariantType, OwnType, BorrowType, End as NoParts, More as Part, Bare}
use Rattle.comp_types.specs.Items.{Item, Kind, Entries, FuncItem, InstanceItem, KindItem, ResourceKind, ValueKind, FuncKind, InstanceKind, End, More, look_up, names}

-- ---- value types and functions

abbrev mutual
  pub IsSameValue : (Meets : ℕ → ℕ → Type 0) → Plain → Plain → Type 0
  IsSameValue Meets a (ListType item) = (other : Plain) × (a ≡ ListType other) × IsSameValue Meets other item
  IsSameValue Meets a (RecordType form fields) = (others : Parts) × (a ≡ RecordType form others) × AreSameParts Meets others fields
  IsSameValue Meets a (VariantType form cases) = (others : Parts) × (a ≡ VariantType form others) × AreSameParts Meets others cases
  IsSameValue Meets a (OwnType y) = (x : ℕ) × (a ≡ OwnType x) × Meets x y
  IsSameValue Meets a (BorrowType y) = (x : ℕ) × (a ≡ BorrowType x) × Meets x y
  IsSameValue Meets a b = a ≡ b

  pub AreSameParts : (Meets : ℕ → ℕ → Type 0) → Parts → Parts → Type 0
  AreSameParts Meets these NoParts = these ≡ NoParts
  AreSameParts Meets these (Part name ty rest) = (other : Plain) × (others : Parts) × (these ≡ Part name other others) × IsSameValue Meets other ty × AreSameParts Meets others rest
  AreSameParts Meets these (Bare name rest) = (others : Parts) × (these ≡ Bare name others) × AreSameParts Meets others rest

-- parameters of equal types in order, whatever their names
abbrev pub AreSameParameters : (Meets : ℕ → ℕ → Type 0) → Parts → Parts → Type 0
AreSameParameters Meets these NoParts = these ≡ NoParts
AreSameParameters Meets these (Part _ ty rest) = (name : List ℕ) × (other : Plain) × (others : Parts) × (these ≡ Part name other others) × IsSameValue Meets other ty × AreSameParameters Meets others rest
AreSameParameters Meets these (Bare _ rest) = (name : List ℕ) × (others : Parts) × (these ≡ Bare name others) × AreSameParameters Meets others rest

abbrev pub IsSameAnswer : (Meets : ℕ → ℕ → Type 0) → Opt Plain → Opt Plain → Type 0
IsSameAnswer Meets a None = a ≡ None
IsSameAnswer Meets a (Some ty) = (other : Plain) × (a ≡ Some other) × IsSameValue Meets other ty

pub record IsSameFunc (Meets : ℕ → ℕ → Type 0) (a b : PlainFunc) : Type 0 where
  pub params : AreSameParameters Meets a.params b.params
  pub answer : IsSameAnswer Meets a.answer b.answer

-- ---- resources that instance types declare

-- no resource of either type has two partners
abbrev pub IsOneToOne : (ℕ → ℕ → Bool) → Type 0
IsOneToOne pairs = ((x y z : ℕ) → IsTrue (pairs x y) → IsTrue (pairs x z) → y ≡ z) × ((x y z : ℕ) → IsTrue (pairs x z) → IsTrue (pairs y z) → x ≡ y)

-- Inside two instance types a resource that the one declares meets only its partner among those that the other declares. All
-- others meet as outside.
abbrev pub MeetsInside : (own others : List ℕ) → (pairs : ℕ → ℕ → Bool) → (Meets : ℕ → ℕ → Type 0) → ℕ → ℕ → Type 0
MeetsInside own others pairs Meets x y = (Contains own x × Contains others y × IsTrue (pairs x y)) ⊎ ((Contains own x → ⊥) × (Contains others y → ⊥) × Meets x y)

-- ---- items

abbrev mutual
  pub IsSameItem : (Meets : ℕ → ℕ → Type 0) → Item → Item → Type 0
  IsSameItem Meets a (FuncItem ty) = (other : PlainFunc) × (a ≡ FuncItem other) × IsSameFunc Meets other ty
  IsSameItem Meets a (InstanceItem entries) = (others : Entries) × (a ≡ InstanceItem others) × HasEach Meets others entries × All (Contains (names entries)) (names others)
  IsSameItem Meets a (KindItem kind) = (other : Kind) × (a ≡ KindItem other) × IsSameKind Meets other kind

  pub IsSameKind : (Meets : ℕ → ℕ → Type 0) → Kind → Kind → Type 0
  IsSameKind Meets a (ResourceKind y) = (x : ℕ) × (a ≡ ResourceKind x) × Meets x y
  IsSameKind Meets a (ValueKind ty) = (other : Plain) × (a ≡ ValueKind other) × IsSameValue Meets other ty
  IsSameKind Meets a (FuncKind ty) = (other : PlainFunc) × (a ≡ FuncKind other) × IsSameFunc Meets other ty
  -- up to the numbers of the resources that the two declare
  IsSameKind Meets a (InstanceKind own entries) = (owned : List ℕ) × (others : Entries) × (a ≡ InstanceKind owned others) × (pairs : ℕ → ℕ → Bool) × IsOneToOne pairs × HasEach (MeetsInside owned own pairs Meets) others entries × All (Contains (names entries)) (names others)

  -- each name of the second is a name of the first, with an equal item
  pub HasEach : (Meets : ℕ → ℕ → Type 0) → Entries → Entries → Type 0
  HasEach Meets these End = ⊤
  HasEach Meets these (More name item rest) = (other : Item) × (look_up name these ≡ Some other) × IsSameItem Meets other item × HasEach Meets these rest

-- The two types are equal.
abbrev pub IsEqualType : Item → Item → Type 0
IsEqualType a b = IsSameItem (λ x y. x ≡ y) a b
