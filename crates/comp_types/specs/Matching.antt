-- The partners that make one type equal to another: a walk through both at once, which gives each resource of the second that it
-- comes by the resource in its place in the first, and stops where that has another partner, or where the types differ.
use Rattle.std.specs.Prelude.{◌≡◌, ℕ, List, [], ◌∷◌, ◌++◌, Bool, true, false, ◌&&◌, not, is_some, nat_eq, if◌then◌else◌, Option as Opt, Some, None}
use Rattle.std.specs.List.{list_any}
use Rattle.std.specs.Cmp.Lexicographic.{pointwise}
use Rattle.wit_types.specs.Plain.{Width, OneByte, TwoBytes, FourBytes, EightBytes, RecordForm, AsRecord, AsTuple, VariantForm, AsVariant, AsEnum, AsOption, AsResult, Plain, Parts, PlainFunc, BoolType, SignedType, UnsignedType, CharType, StringType, ListType, RecordType, VariantType, FlagsType, OwnType, BorrowType, End as NoParts, More as Part, Bare}
use Rattle.comp_types.specs.Items.{Item, Kind, Entries, FuncItem, InstanceItem, KindItem, ResourceKind, ValueKind, FuncKind, InstanceKind, End, More, same_name, look_up}
use Rattle.comp_types.specs.Substitution.{partner_of}

-- ---- one pair

-- resources of the second type, each with its partner in the first
abbrev pub Pairs : Type 0
Pairs = List (ℕ × ℕ)

abbrev pub meet_at : Pairs → ℕ → ℕ → Opt ℕ → Opt Pairs
meet_at by y x None = Some (by ++ (y, x) ∷ [])
meet_at by y x (Some z) = if nat_eq z x then Some by else None

-- with this pair too, unless the resource has another partner
abbrev pub meet : Pairs → ℕ → ℕ → Opt Pairs
meet by y x = meet_at by y x (partner_of by y)

-- what a walk answers: whether it goes on, and then with which pairs
abbrev pub GoesOn : Bool → Pairs → Opt Pairs → Type 0
GoesOn true by o = o ≡ Some by
GoesOn false by o = o ≡ None

-- one walk, and then another
abbrev pub onward : (Pairs → Opt Pairs) → Opt Pairs → Opt Pairs
onward next None = None
onward next (Some by) = next by

abbrev pub only_if : Bool → Opt Pairs → Opt Pairs
only_if true o = o
only_if false o = None

abbrev pub if_found : (Item → Opt Pairs) → Opt Item → Opt Pairs
if_found walk None = None
if_found walk (Some item) = walk item

-- ---- value types and functions

abbrev pub same_width : Width → Width → Bool
same_width OneByte OneByte = true
same_width TwoBytes TwoBytes = true
same_width FourBytes FourBytes = true
same_width EightBytes EightBytes = true
same_width _ _ = false

abbrev pub same_record_form : RecordForm → RecordForm → Bool
same_record_form AsRecord AsRecord = true
same_record_form AsTuple AsTuple = true
same_record_form _ _ = false

abbrev pub same_variant_form : VariantForm → VariantForm → Bool
same_variant_form AsVariant AsVariant = true
same_variant_form AsEnum AsEnum = true
same_variant_form AsOption AsOption = true
same_variant_form AsResult AsResult = true
same_variant_form _ _ = false

-- a number for each type without parts, by which they are told apart
abbrev pub primitive_number : Plain → ℕ
primitive_number BoolType = 1
primitive_number (SignedType OneByte) = 2
primitive_number (UnsignedType OneByte) = 3
primitive_number (SignedType TwoBytes) = 4
primitive_number (UnsignedType TwoBytes) = 5
primitive_number (SignedType FourBytes) = 6
primitive_number (UnsignedType FourBytes) = 7
primitive_number (SignedType EightBytes) = 8
primitive_number (UnsignedType EightBytes) = 9
primitive_number CharType = 10
primitive_number StringType = 11
primitive_number _ = 0

abbrev mutual
  pub matched_value : Pairs → Plain → Plain → Opt Pairs
  matched_value by BoolType BoolType = Some by
  matched_value by (SignedType v) (SignedType w) = only_if (same_width v w) (Some by)
  matched_value by (UnsignedType v) (UnsignedType w) = only_if (same_width v w) (Some by)
  matched_value by CharType CharType = Some by
  matched_value by StringType StringType = Some by
  matched_value by (ListType a) (ListType b) = matched_value by a b
  matched_value by (RecordType f ps) (RecordType g qs) = only_if (same_record_form f g) (matched_parts by ps qs)
  matched_value by (VariantType f ps) (VariantType g qs) = only_if (same_variant_form f g) (matched_parts by ps qs)
  matched_value by (FlagsType ls) (FlagsType ks) = only_if (pointwise same_name ls ks) (Some by)
  matched_value by (OwnType x) (OwnType y) = meet by y x
  matched_value by (BorrowType x) (BorrowType y) = meet by y x
  matched_value by _ _ = None

  pub matched_parts : Pairs → Parts → Parts → Opt Pairs
  matched_parts by NoParts NoParts = Some by
  matched_parts by (Part m a ps) (Part n b qs) = only_if (same_name m n) (onward (λ more. matched_parts more ps qs) (matched_value by a b))
  matched_parts by (Bare m ps) (Bare n qs) = only_if (same_name m n) (matched_parts by ps qs)
  matched_parts by _ _ = None

abbrev pub matched_answer : Pairs → Opt Plain → Opt Plain → Opt Pairs
matched_answer by None None = Some by
matched_answer by (Some a) (Some b) = matched_value by a b
matched_answer by _ _ = None

-- parameters in order, whatever their names
abbrev pub matched_parameters : Pairs → Parts → Parts → Opt Pairs
matched_parameters by NoParts NoParts = Some by
matched_parameters by (Part _ a ps) (Part _ b qs) = onward (λ more. matched_parameters more ps qs) (matched_value by a b)
matched_parameters by (Bare _ ps) (Bare _ qs) = matched_parameters by ps qs
matched_parameters by _ _ = None

abbrev pub matched_func : Pairs → PlainFunc → PlainFunc → Opt Pairs
matched_func by a b = onward (λ more. matched_answer more a.answer b.answer) (matched_parameters by a.params b.params)

-- ---- the resources that instance types declare

abbrev pub is_own : List ℕ → ℕ → Bool
is_own own r = list_any (nat_eq r) own

-- Of a pair that was found inside two instance types: a resource that the one declares meets one that the other declares, and that
-- one alone.
abbrev pub paired_one : (owned own : ℕ → Bool) → Pairs → ℕ × ℕ → Opt Pairs
paired_one owned own inner p = if own p.0 then only_if (owned p.1) (meet inner p.1 p.0) else only_if (not (owned p.1)) (Some inner)

abbrev pub paired : (owned own : ℕ → Bool) → Pairs → Pairs → Opt Pairs
paired owned own inner [] = Some inner
paired owned own inner (p ∷ ps) = onward (λ more. paired owned own more ps) (paired_one owned own inner p)

-- all others meet as outside
abbrev pub handed_one : (own : ℕ → Bool) → Pairs → ℕ × ℕ → Opt Pairs
handed_one own by p = if own p.0 then Some by else meet by p.0 p.1

abbrev pub handed_out : (own : ℕ → Bool) → Pairs → Pairs → Opt Pairs
handed_out own by [] = Some by
handed_out own by (p ∷ ps) = onward (λ more. handed_out own more ps) (handed_one own by p)

-- what is found inside two instance types that declare these resources
abbrev pub unpacked : (owned own : ℕ → Bool) → Pairs → Pairs → Opt Pairs
unpacked owned own by inside = only_if (is_some (paired owned own [] inside)) (handed_out own by inside)

-- ---- items

-- each name of the first is one of the second
abbrev pub all_named : Entries → Entries → Bool
all_named End entries = true
all_named (More name item rest) entries = is_some (look_up name entries) && all_named rest entries

abbrev mutual
  pub matched_item : Pairs → Item → Item → Opt Pairs
  matched_item by (FuncItem a) (FuncItem b) = matched_func by a b
  matched_item by (InstanceItem others) (InstanceItem entries) = only_if (all_named others entries) (matched_entries by others entries)
  matched_item by (KindItem a) (KindItem b) = matched_kind by a b
  matched_item by _ _ = None

  pub matched_kind : Pairs → Kind → Kind → Opt Pairs
  matched_kind by (ResourceKind x) (ResourceKind y) = meet by y x
  matched_kind by (ValueKind a) (ValueKind b) = matched_value by a b
  matched_kind by (FuncKind a) (FuncKind b) = matched_func by a b
  matched_kind by (InstanceKind owned others) (InstanceKind own entries) =
      only_if (all_named others entries) (onward (unpacked (is_own owned) (is_own own) by) (matched_entries [] others entries))
  matched_kind by _ _ = None

  -- each entry of the second with that of its name in the first
  pub matched_entries : Pairs → Entries → Entries → Opt Pairs
  matched_entries by these End = Some by
  matched_entries by these (More name item rest) = onward (λ more. matched_entries more these rest) (if_found (λ other. matched_item by other item) (look_up name these))

-- ---- arguments

-- of an instance that is imported, an argument has at least the entries
abbrev pub matched_instance : Pairs → Item → Entries → Opt Pairs
matched_instance by (InstanceItem others) entries = matched_entries by others entries
matched_instance by (FuncItem ty) entries = None
matched_instance by (KindItem kind) entries = None

abbrev pub matched_argument : Pairs → Item → Item → Opt Pairs
matched_argument by given (InstanceItem entries) = matched_instance by given entries
matched_argument by given (FuncItem ty) = matched_item by given (FuncItem ty)
matched_argument by given (KindItem kind) = matched_item by given (KindItem kind)

abbrev pub matched_arguments : Pairs → Entries → Entries → Opt Pairs
matched_arguments by args End = Some by
matched_arguments by args (More name item rest) = onward (λ more. matched_arguments more args rest) (if_found (λ given. matched_argument by given item) (look_up name args))

-- ---- equality

-- each resource is its own partner
abbrev pub all_same : Pairs → Bool
all_same [] = true
all_same (p ∷ by) = nat_eq p.0 p.1 && all_same by
