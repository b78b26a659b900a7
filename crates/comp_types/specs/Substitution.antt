-- Types with other resources: each number that stands first in a pair of the list becomes its partner, and nothing else changes.
use Rattle.std.specs.Prelude.{ℕ, List, [], ◌∷◌, ◌++◌, map, nat_eq, if◌then◌else◌, Option as Opt, Some, None}
use Rattle.std.specs.Map.{lookup}
use Rattle.wit_types.specs.Plain.{Plain, Parts, PlainFunc, ListType, RecordType, VariantType, OwnType, BorrowType, End as NoParts, More as Part, Bare}
use Rattle.comp_types.specs.Items.{Item, Kind, Entries, FuncItem, InstanceItem, KindItem, ResourceKind, ValueKind, FuncKind, InstanceKind, End, More}

-- the partner in the first pair that names the resource, or else the resource
abbrev pub partner_in : List (ℕ × ℕ) → ℕ → ℕ
partner_in [] resource = resource
partner_in (pair ∷ by) resource = if nat_eq pair.0 resource then pair.1 else partner_in by resource

-- the partner in the first pair that names the resource, if there is one
abbrev pub partner_of : List (ℕ × ℕ) → ℕ → Opt ℕ
partner_of by resource = lookup (nat_eq resource) by

-- with one pair more, unless the resource has a partner already
abbrev pub and_pair_to : List (ℕ × ℕ) → ℕ → ℕ → Opt ℕ → List (ℕ × ℕ)
and_pair_to by resource partner None = by ++ (resource, partner) ∷ []
and_pair_to by resource partner (Some _) = by

abbrev pub and_pair : List (ℕ × ℕ) → ℕ → ℕ → List (ℕ × ℕ)
and_pair by resource partner = and_pair_to by resource partner (partner_of by resource)

abbrev mutual
  pub value_with : (ℕ → ℕ) → Plain → Plain
  value_with f (ListType item) = ListType (value_with f item)
  value_with f (RecordType form fields) = RecordType form (parts_with f fields)
  value_with f (VariantType form cases) = VariantType form (parts_with f cases)
  value_with f (OwnType resource) = OwnType (f resource)
  value_with f (BorrowType resource) = BorrowType (f resource)
  value_with f ty = ty

  pub parts_with : (ℕ → ℕ) → Parts → Parts
  parts_with f NoParts = NoParts
  parts_with f (Part name ty rest) = Part name (value_with f ty) (parts_with f rest)
  parts_with f (Bare name rest) = Bare name (parts_with f rest)

abbrev pub answer_with : (ℕ → ℕ) → Opt Plain → Opt Plain
answer_with f None = None
answer_with f (Some ty) = Some (value_with f ty)

abbrev pub func_with : (ℕ → ℕ) → PlainFunc → PlainFunc
func_with f ty = record { params = parts_with f ty.params; answer = answer_with f ty.answer }

abbrev mutual
  pub item_with : (ℕ → ℕ) → Item → Item
  item_with f (FuncItem ty) = FuncItem (func_with f ty)
  item_with f (InstanceItem entries) = InstanceItem (entries_with f entries)
  item_with f (KindItem kind) = KindItem (kind_with f kind)

  pub kind_with : (ℕ → ℕ) → Kind → Kind
  kind_with f (ResourceKind resource) = ResourceKind (f resource)
  kind_with f (ValueKind ty) = ValueKind (value_with f ty)
  kind_with f (FuncKind ty) = FuncKind (func_with f ty)
  kind_with f (InstanceKind own entries) = InstanceKind (map f own) (entries_with f entries)

  pub entries_with : (ℕ → ℕ) → Entries → Entries
  entries_with f End = End
  entries_with f (More name item rest) = More name (item_with f item) (entries_with f rest)

abbrev pub substituted : List (ℕ × ℕ) → Item → Item
substituted by item = item_with (partner_in by) item
