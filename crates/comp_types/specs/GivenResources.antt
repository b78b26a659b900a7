-- The resources that types name, and new numbers for them.
use Rattle.std.specs.Prelude.{ℕ, ◌+◌, List, [], ◌∷◌, ◌++◌, Bool, true, false, not, ◌||◌, ◌==◌, Option, Some, None}
use Rattle.std.specs.List.{list_any, filter}
use Rattle.wit_types.specs.Plain.{Plain, Parts, PlainFunc, ListType, RecordType, VariantType, OwnType, BorrowType, End as NoParts, More as Part, Bare}
use Rattle.comp_types.specs.Items.{Item, Kind, Entries, FuncItem, InstanceItem, KindItem, ResourceKind, ValueKind, FuncKind, InstanceKind, End, More, look_up}
use Rattle.comp_types.specs.Substitution.{partner_in, entries_with}

abbrev pub is_among : List ℕ → ℕ → Bool
is_among rs r = list_any (λ x. x == r) rs

abbrev pub without : List ℕ → List ℕ → List ℕ
without own rs = filter (λ r. not (is_among own r)) rs

-- ---- the resources that a type names, in the order in which they stand in it

abbrev mutual
  pub named_in_value : Plain → List ℕ
  named_in_value (ListType item) = named_in_value item
  named_in_value (RecordType form fields) = named_in_parts fields
  named_in_value (VariantType form cases) = named_in_parts cases
  named_in_value (OwnType r) = r ∷ []
  named_in_value (BorrowType r) = r ∷ []
  named_in_value _ = []

  pub named_in_parts : Parts → List ℕ
  named_in_parts NoParts = []
  named_in_parts (Part name ty rest) = named_in_value ty ++ named_in_parts rest
  named_in_parts (Bare name rest) = named_in_parts rest

abbrev pub named_in_answer : Option Plain → List ℕ
named_in_answer None = []
named_in_answer (Some ty) = named_in_value ty

abbrev pub named_in_func : PlainFunc → List ℕ
named_in_func ty = named_in_parts ty.params ++ named_in_answer ty.answer

-- but for those that an instance type declares itself
abbrev mutual
  pub named_in_item : Item → List ℕ
  named_in_item (FuncItem ty) = named_in_func ty
  named_in_item (InstanceItem entries) = named_in entries
  named_in_item (KindItem kind) = named_in_kind kind

  pub named_in_kind : Kind → List ℕ
  named_in_kind (ResourceKind r) = r ∷ []
  named_in_kind (ValueKind ty) = named_in_value ty
  named_in_kind (FuncKind ty) = named_in_func ty
  named_in_kind (InstanceKind own entries) = without own (named_in entries)

  pub named_in : Entries → List ℕ
  named_in End = []
  named_in (More name item rest) = named_in_item item ++ named_in rest

-- each number once, where it stands first
abbrev pub distinct : List ℕ → List ℕ
distinct [] = []
distinct (r ∷ rs) = r ∷ filter (λ x. not (x == r)) (distinct rs)

-- ---- new numbers

-- the numbers from the next one on, for resources in order
abbrev pub numbered : List ℕ → ℕ → List (ℕ × ℕ)
numbered [] next = []
numbered (r ∷ rs) next = (r, next) ∷ numbered rs (next + 1)

abbrev pub renamed : List (ℕ × ℕ) → Entries → Entries
renamed by entries = entries_with (partner_in by) entries

-- ---- what arguments give for the resources of imports

abbrev mutual
  -- by the names under which the resources stand
  pub given_by : Entries → Entries → List (ℕ × ℕ)
  given_by args End = []
  given_by args (More name item rest) = given_for (look_up name args) item ++ given_by args rest

  pub given_for : Option Item → Item → List (ℕ × ℕ)
  given_for (Some (KindItem (ResourceKind x))) (KindItem (ResourceKind y)) = (y, x) ∷ []
  given_for (Some (InstanceItem those)) (InstanceItem entries) = given_by those entries
  given_for _ _ = []
