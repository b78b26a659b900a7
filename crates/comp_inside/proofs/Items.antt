-- Types and items whose resources have later numbers.
use Rattle.std.proofs.Common.{◌≡◌, ℕ, ◌+◌, max, cond, List, [], ◌∷◌, ◌++◌, map, Option, Some, None, Bool, true, false, refl, sym, ◌∙◌, ap}
use Rattle.std.specs.Option.{option_map}
use Rattle.std.proofs.Math.Path.{ap₂}
use Rattle.std.proofs.lemmas.List.{map-append}
use Rattle.wasm_ast.specs.declared.component.Primitive.{Primitive}
use Rattle.wasm_ast.specs.declared.component.Primitive.TheVariants as primitives
use Rattle.wit_types.specs.Plain.{Name, Plain, Parts, PlainFunc, BoolType, SignedType, UnsignedType, CharType, StringType, ListType, RecordType, VariantType, FlagsType, OwnType, BorrowType, End as NoParts, More as Part, Bare}
use Rattle.wit_types.specs.Limits.{depth, greatest_depth}
use Rattle.comp_facts.specs.Primitives.{primitive_type}
use Rattle.comp_facts.specs.Measures.{answer_depth, func_depth}
use Rattle.comp_types.specs.Items.{Item, Kind, Entries, FuncItem, InstanceItem, KindItem, ResourceKind, ValueKind, FuncKind, InstanceKind, End, More, same_name, look_up, and_entry}
use Rattle.comp_types.specs.Measures.{item_depth, kind_depth, entries_depth}
use Rattle.comp_types.specs.Substitution.{partner_in, value_with, parts_with, answer_with, func_with, item_with, kind_with, entries_with}
use Rattle.comp_types.specs.GivenResources.{without, named_in_value, named_in_parts, named_in_answer, named_in_func, named_in_item, named_in_kind, named_in, renamed, given_by, given_for}
use Rattle.comp_inside.specs.Later.{later, pair_later}
use Rattle.comp_inside.specs.Linked.{Each}
use Rattle.comp_inside.proofs.Numbers.{partner_later, without_later}

-- ---- one renaming after another, of the resources that are named

each_first : (P : ℕ → Type 0) (xs ys : List ℕ) → Each P (xs ++ ys) → Each P xs
each_first P [] ys h = tt
each_first P (x ∷ xs) ys h = (h.0, each_first P xs ys h.1)

each_second : (P : ℕ → Type 0) (xs ys : List ℕ) → Each P (xs ++ ys) → Each P ys
each_second P [] ys h = h
each_second P (x ∷ xs) ys h = each_second P xs ys h.1

module _ (P : ℕ → Type 0) (f g f' g' : ℕ → ℕ) (same : (r : ℕ) → P r → g (f r) ≡ f' (g' r)) where
  mutual
    pub value_twice : (ty : Plain) → Each P (named_in_value ty) → value_with g (value_with f ty) ≡ value_with f' (value_with g' ty)
    value_twice BoolType h = refl
    value_twice (SignedType width) h = refl
    value_twice (UnsignedType width) h = refl
    value_twice CharType h = refl
    value_twice StringType h = refl
    value_twice (ListType item) h = ap ListType (value_twice item h)
    value_twice (RecordType form fields) h = ap (RecordType form) (parts_twice fields h)
    value_twice (VariantType form cases) h = ap (VariantType form) (parts_twice cases h)
    value_twice (FlagsType labels) h = refl
    value_twice (OwnType r) h = ap OwnType (same r h.0)
    value_twice (BorrowType r) h = ap BorrowType (same r h.0)

    parts_twice : (ps : Parts) → Each P (named_in_parts ps) → parts_with g (parts_with f ps) ≡ parts_with f' (parts_with g' ps)
    parts_twice NoParts h = refl
    parts_twice (Part name ty rest) h = ap₂ (Part name) (value_twice ty (each_first P (named_in_value ty) (named_in_parts rest) h)) (parts_twice rest (each_second P (named_in_value ty) (named_in_parts rest) h))
    parts_twice (Bare name rest) h = ap (Bare name) (parts_twice rest h)

  answer_twice : (ty : Option Plain) → Each P (named_in_answer ty) → answer_with g (answer_with f ty) ≡ answer_with f' (answer_with g' ty)
  answer_twice None h = refl
  answer_twice (Some ty) h = ap Some (value_twice ty h)

  pub func_twice : (ty : PlainFunc) → Each P (named_in_func ty) → func_with g (func_with f ty) ≡ func_with f' (func_with g' ty)
  func_twice ty h =
      ap₂ (λ ps a. record { params = ps; answer = a }) (parts_twice ty.params (each_first P (named_in_parts ty.params) (named_in_answer ty.answer) h))
      (answer_twice ty.answer (each_second P (named_in_parts ty.params) (named_in_answer ty.answer) h))

-- ---- of all resources

abbrev Any : ℕ → Type 0
Any r = Unit {0}

each_any : (rs : List ℕ) → Each Any rs
each_any [] = tt
each_any (r ∷ rs) = (tt, each_any rs)

module _ (f g f' g' : ℕ → ℕ) (same : (r : ℕ) → g (f r) ≡ f' (g' r)) where
  numbers_twice : (rs : List ℕ) → map g (map f rs) ≡ map f' (map g' rs)
  numbers_twice [] = refl
  numbers_twice (r ∷ rs) = ap₂ (λ x xs. x ∷ xs) (same r) (numbers_twice rs)

  any_value : (ty : Plain) → value_with g (value_with f ty) ≡ value_with f' (value_with g' ty)
  any_value ty = value_twice Any f g f' g' (λ r any. same r) ty (each_any (named_in_value ty))

  any_func : (ty : PlainFunc) → func_with g (func_with f ty) ≡ func_with f' (func_with g' ty)
  any_func ty = func_twice Any f g f' g' (λ r any. same r) ty (each_any (named_in_func ty))

  mutual
    item_twice : (item : Item) → item_with g (item_with f item) ≡ item_with f' (item_with g' item)
    item_twice (FuncItem ty) = ap FuncItem (any_func ty)
    item_twice (InstanceItem entries) = ap InstanceItem (entries_twice entries)
    item_twice (KindItem kind) = ap KindItem (kind_twice kind)

    kind_twice : (kind : Kind) → kind_with g (kind_with f kind) ≡ kind_with f' (kind_with g' kind)
    kind_twice (ResourceKind r) = ap ResourceKind (same r)
    kind_twice (ValueKind ty) = ap ValueKind (any_value ty)
    kind_twice (FuncKind ty) = ap FuncKind (any_func ty)
    kind_twice (InstanceKind own entries) = ap₂ InstanceKind (numbers_twice own) (entries_twice entries)

    entries_twice : (es : Entries) → entries_with g (entries_with f es) ≡ entries_with f' (entries_with g' es)
    entries_twice End = refl
    entries_twice (More name item rest) = ap₂ (More name) (item_twice item) (entries_twice rest)

module _ (k : ℕ) where
  pub renamed_later : (pairs : List (ℕ × ℕ)) (es : Entries) → renamed (map (pair_later k) pairs) (entries_with (later k) es) ≡ entries_with (later k) (renamed pairs es)
  renamed_later pairs es = entries_twice (later k) (partner_in (map (pair_later k) pairs)) (later k) (partner_in pairs) (partner_later k pairs) es

  pub primitive_later : (p : Primitive) → value_with (later k) (primitive_type p) ≡ primitive_type p
  primitive_later primitives.Bool = refl
  primitive_later primitives.S8 = refl
  primitive_later primitives.U8 = refl
  primitive_later primitives.S16 = refl
  primitive_later primitives.U16 = refl
  primitive_later primitives.S32 = refl
  primitive_later primitives.U32 = refl
  primitive_later primitives.S64 = refl
  primitive_later primitives.U64 = refl
  primitive_later primitives.Char = refl
  primitive_later primitives.String = refl

  -- ---- how deep

  mutual
    depth_later : (ty : Plain) → depth (value_with (later k) ty) ≡ depth ty
    depth_later BoolType = refl
    depth_later (SignedType width) = refl
    depth_later (UnsignedType width) = refl
    depth_later CharType = refl
    depth_later StringType = refl
    depth_later (ListType item) = ap (λ n. n + 1) (depth_later item)
    depth_later (RecordType form fields) = ap (λ n. n + 1) (greatest_later fields)
    depth_later (VariantType form cases) = ap (λ n. n + 1) (greatest_later cases)
    depth_later (FlagsType labels) = refl
    depth_later (OwnType r) = refl
    depth_later (BorrowType r) = refl

    greatest_later : (ps : Parts) → greatest_depth (parts_with (later k) ps) ≡ greatest_depth ps
    greatest_later NoParts = refl
    greatest_later (Part name ty rest) = ap₂ max (depth_later ty) (greatest_later rest)
    greatest_later (Bare name rest) = greatest_later rest

  answer_depth_later : (ty : Option Plain) → answer_depth (answer_with (later k) ty) ≡ answer_depth ty
  answer_depth_later None = refl
  answer_depth_later (Some ty) = depth_later ty

  func_depth_later : (ty : PlainFunc) → func_depth (func_with (later k) ty) ≡ func_depth ty
  func_depth_later ty = ap₂ (λ a b. max a b + 1) (greatest_later ty.params) (answer_depth_later ty.answer)

  mutual
    item_depth_later : (item : Item) → item_depth (item_with (later k) item) ≡ item_depth item
    item_depth_later (FuncItem ty) = func_depth_later ty
    item_depth_later (InstanceItem entries) = ap (λ n. n + 1) (entries_depth_later entries)
    item_depth_later (KindItem kind) = kind_depth_later kind

    pub kind_depth_later : (kind : Kind) → kind_depth (kind_with (later k) kind) ≡ kind_depth kind
    kind_depth_later (ResourceKind r) = refl
    kind_depth_later (ValueKind ty) = depth_later ty
    kind_depth_later (FuncKind ty) = func_depth_later ty
    kind_depth_later (InstanceKind own entries) = ap (λ n. n + 1) (entries_depth_later entries)

    entries_depth_later : (es : Entries) → entries_depth (entries_with (later k) es) ≡ entries_depth es
    entries_depth_later End = refl
    entries_depth_later (More name item rest) = ap₂ max (item_depth_later item) (entries_depth_later rest)

  -- ---- which resources are named

  mutual
    value_named : (ty : Plain) → named_in_value (value_with (later k) ty) ≡ map (later k) (named_in_value ty)
    value_named BoolType = refl
    value_named (SignedType width) = refl
    value_named (UnsignedType width) = refl
    value_named CharType = refl
    value_named StringType = refl
    value_named (ListType item) = value_named item
    value_named (RecordType form fields) = parts_named fields
    value_named (VariantType form cases) = parts_named cases
    value_named (FlagsType labels) = refl
    value_named (OwnType r) = refl
    value_named (BorrowType r) = refl

    parts_named : (ps : Parts) → named_in_parts (parts_with (later k) ps) ≡ map (later k) (named_in_parts ps)
    parts_named NoParts = refl
    parts_named (Part name ty rest) = ap₂ (λ x y. x ++ y) (value_named ty) (parts_named rest) ∙ sym (map-append (later k) (named_in_value ty) (named_in_parts rest))
    parts_named (Bare name rest) = parts_named rest

  answer_named : (ty : Option Plain) → named_in_answer (answer_with (later k) ty) ≡ map (later k) (named_in_answer ty)
  answer_named None = refl
  answer_named (Some ty) = value_named ty

  func_named : (ty : PlainFunc) → named_in_func (func_with (later k) ty) ≡ map (later k) (named_in_func ty)
  func_named ty = ap₂ (λ x y. x ++ y) (parts_named ty.params) (answer_named ty.answer) ∙ sym (map-append (later k) (named_in_parts ty.params) (named_in_answer ty.answer))

  mutual
    item_named : (item : Item) → named_in_item (item_with (later k) item) ≡ map (later k) (named_in_item item)
    item_named (FuncItem ty) = func_named ty
    item_named (InstanceItem entries) = entries_named entries
    item_named (KindItem kind) = kind_named kind

    kind_named : (kind : Kind) → named_in_kind (kind_with (later k) kind) ≡ map (later k) (named_in_kind kind)
    kind_named (ResourceKind r) = refl
    kind_named (ValueKind ty) = value_named ty
    kind_named (FuncKind ty) = func_named ty
    kind_named (InstanceKind own entries) = ap (without (map (later k) own)) (entries_named entries) ∙ without_later k own (named_in entries)

    pub entries_named : (es : Entries) → named_in (entries_with (later k) es) ≡ map (later k) (named_in es)
    entries_named End = refl
    entries_named (More name item rest) = ap₂ (λ x y. x ++ y) (item_named item) (entries_named rest) ∙ sym (map-append (later k) (named_in_item item) (named_in rest))

  -- ---- entries by their names

  picked_later : (b : Bool) (item : Item) (x y : Option Item) → x ≡ option_map (item_with (later k)) y → cond b (Some (item_with (later k) item)) x ≡ option_map (item_with (later k)) (cond b (Some item) y)
  picked_later true item x y e = refl
  picked_later false item x y e = e

  pub look_up_later : (name : Name) (es : Entries) → look_up name (entries_with (later k) es) ≡ option_map (item_with (later k)) (look_up name es)
  look_up_later name End = refl
  look_up_later name (More n item rest) = picked_later (same_name n name) item (look_up name (entries_with (later k) rest)) (look_up name rest) (look_up_later name rest)

  pub and_entry_later : (es : Entries) (name : Name) (item : Item) → and_entry (entries_with (later k) es) name (item_with (later k) item) ≡ entries_with (later k) (and_entry es name item)
  and_entry_later End name item = refl
  and_entry_later (More n i rest) name item = ap (More n (item_with (later k) i)) (and_entry_later rest name item)

  -- ---- what arguments give

  none_given : (item : Item) → given_for None item ≡ []
  none_given (FuncItem ty) = refl
  none_given (InstanceItem entries) = refl
  none_given (KindItem (ResourceKind r)) = refl
  none_given (KindItem (ValueKind ty)) = refl
  none_given (KindItem (FuncKind ty)) = refl
  none_given (KindItem (InstanceKind own entries)) = refl

  func_given : (ty : PlainFunc) (item : Item) → given_for (Some (FuncItem ty)) item ≡ []
  func_given ty (FuncItem ty') = refl
  func_given ty (InstanceItem entries) = refl
  func_given ty (KindItem (ResourceKind r)) = refl
  func_given ty (KindItem (ValueKind ty')) = refl
  func_given ty (KindItem (FuncKind ty')) = refl
  func_given ty (KindItem (InstanceKind own entries)) = refl

  value_given : (ty : Plain) (item : Item) → given_for (Some (KindItem (ValueKind ty))) item ≡ []
  value_given ty (FuncItem ty') = refl
  value_given ty (InstanceItem entries) = refl
  value_given ty (KindItem (ResourceKind r)) = refl
  value_given ty (KindItem (ValueKind ty')) = refl
  value_given ty (KindItem (FuncKind ty')) = refl
  value_given ty (KindItem (InstanceKind own entries)) = refl

  func_kind_given : (ty : PlainFunc) (item : Item) → given_for (Some (KindItem (FuncKind ty))) item ≡ []
  func_kind_given ty (FuncItem ty') = refl
  func_kind_given ty (InstanceItem entries) = refl
  func_kind_given ty (KindItem (ResourceKind r)) = refl
  func_kind_given ty (KindItem (ValueKind ty')) = refl
  func_kind_given ty (KindItem (FuncKind ty')) = refl
  func_kind_given ty (KindItem (InstanceKind own entries)) = refl

  instance_kind_given : (own : List ℕ) (es : Entries) (item : Item) → given_for (Some (KindItem (InstanceKind own es))) item ≡ []
  instance_kind_given own es (FuncItem ty') = refl
  instance_kind_given own es (InstanceItem entries) = refl
  instance_kind_given own es (KindItem (ResourceKind r)) = refl
  instance_kind_given own es (KindItem (ValueKind ty')) = refl
  instance_kind_given own es (KindItem (FuncKind ty')) = refl
  instance_kind_given own es (KindItem (InstanceKind own' entries)) = refl

  resource_given : (x : ℕ) (item : Item) → given_for (Some (KindItem (ResourceKind (k + x)))) (item_with (later k) item) ≡ map (pair_later k) (given_for (Some (KindItem (ResourceKind x))) item)
  resource_given x (FuncItem ty) = refl
  resource_given x (InstanceItem entries) = refl
  resource_given x (KindItem (ResourceKind r)) = refl
  resource_given x (KindItem (ValueKind ty)) = refl
  resource_given x (KindItem (FuncKind ty)) = refl
  resource_given x (KindItem (InstanceKind own entries)) = refl

  nothing_given : (item : Item) (o o' : Option Item) → ((i : Item) → given_for o' i ≡ []) → ((i : Item) → given_for o i ≡ []) → given_for o' (item_with (later k) item) ≡ map (pair_later k) (given_for o item)
  nothing_given item o o' none' none = none' (item_with (later k) item) ∙ sym (ap (map (pair_later k)) (none item))

  mutual
    pub given_later : (args es : Entries) → given_by (entries_with (later k) args) (entries_with (later k) es) ≡ map (pair_later k) (given_by args es)
    given_later args End = refl
    given_later args (More name item rest) =
        ap (λ o. given_for o (item_with (later k) item) ++ given_by (entries_with (later k) args) (entries_with (later k) rest)) (look_up_later name args)
        ∙ ap₂ (λ x y. x ++ y) (given_for_later (look_up name args) item) (given_later args rest)
        ∙ sym (map-append (pair_later k) (given_for (look_up name args) item) (given_by args rest))

    given_for_later : (o : Option Item) (item : Item) → given_for (option_map (item_with (later k)) o) (item_with (later k) item) ≡ map (pair_later k) (given_for o item)
    given_for_later (Some (InstanceItem those)) (InstanceItem entries) = given_later those entries
    given_for_later (Some (InstanceItem those)) (FuncItem ty) = refl
    given_for_later (Some (InstanceItem those)) (KindItem (ResourceKind r)) = refl
    given_for_later (Some (InstanceItem those)) (KindItem (ValueKind ty)) = refl
    given_for_later (Some (InstanceItem those)) (KindItem (FuncKind ty)) = refl
    given_for_later (Some (InstanceItem those)) (KindItem (InstanceKind own entries)) = refl
    given_for_later None item = nothing_given item None None none_given none_given
    given_for_later (Some (FuncItem ty)) item = nothing_given item (Some (FuncItem ty)) (Some (FuncItem (func_with (later k) ty))) (func_given (func_with (later k) ty)) (func_given ty)
    given_for_later (Some (KindItem (ResourceKind x))) item = resource_given x item
    given_for_later (Some (KindItem (ValueKind ty))) item = nothing_given item (Some (KindItem (ValueKind ty))) (Some (KindItem (ValueKind (value_with (later k) ty)))) (value_given (value_with (later k) ty)) (value_given ty)
    given_for_later (Some (KindItem (FuncKind ty))) item = nothing_given item (Some (KindItem (FuncKind ty))) (Some (KindItem (FuncKind (func_with (later k) ty)))) (func_kind_given (func_with (later k) ty)) (func_kind_given ty)
    given_for_later (Some (KindItem (InstanceKind own es))) item =
        nothing_given item (Some (KindItem (InstanceKind own es))) (Some (KindItem (InstanceKind (map (later k) own) (entries_with (later k) es)))) (instance_kind_given (map (later k) own) (entries_with (later k) es)) (instance_kind_given own es)
