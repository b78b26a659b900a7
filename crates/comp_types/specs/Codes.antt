-- Types as trees of numbers, by which the logic tells them apart.
use Rattle.std.specs.Prelude.{◌≡◌, ℕ, List, Option as Opt, refl}
use Rattle.std.specs.Coded.{Coded, code_by, coded×, coded_option, coded_ℕ, coded_list}
use Rattle.std.proofs.Common.{arith, ap}
use base.Stored.{Gv, gnil, gnum, gcons}
use Rattle.wit_types.specs.Plain.{Width, OneByte, TwoBytes, FourBytes, EightBytes, RecordForm, AsRecord, AsTuple, VariantForm, AsVariant, AsEnum, AsOption, AsResult, Plain, Parts, PlainFunc, BoolType, SignedType, UnsignedType, CharType, StringType, ListType, RecordType, VariantType, FlagsType, OwnType, BorrowType, End as NoParts, More as Part, Bare}
use Rattle.comp_types.specs.Items.{Item, Kind, Entries, FuncItem, InstanceItem, KindItem, ResourceKind, ValueKind, FuncKind, InstanceKind, End, More}

-- ---- trees of numbers

abbrev tag : Gv → ℕ
tag gnil = 0
tag (gnum n) = n
tag (gcons (gnum n) b) = n
tag (gcons a b) = 0

abbrev left : Gv → Gv
left (gcons a b) = a
left _ = gnil

abbrev right : Gv → Gv
right (gcons a b) = b
right _ = gnil

-- a number in front says which form it is
abbrev form : ℕ → Gv → Gv
form n g = gcons (gnum n) g

abbrev pub name_code : Coded (List ℕ)
name_code = coded_list coded_ℕ

abbrev pub names_code : Coded (List (List ℕ))
names_code = coded_list name_code

-- ---- widths and forms

abbrev width_number : Width → ℕ
width_number OneByte = 1
width_number TwoBytes = 2
width_number FourBytes = 4
width_number EightBytes = 8

width-same : (v w : Width) → width_number v ≡ width_number w → v ≡ w
width-same OneByte OneByte e = refl
width-same TwoBytes TwoBytes e = refl
width-same FourBytes FourBytes e = refl
width-same EightBytes EightBytes e = refl
width-same _ _ e = absurd (omega arith)

abbrev record_number : RecordForm → ℕ
record_number AsRecord = 0
record_number AsTuple = 1

record-same : (v w : RecordForm) → record_number v ≡ record_number w → v ≡ w
record-same AsRecord AsRecord e = refl
record-same AsTuple AsTuple e = refl
record-same _ _ e = absurd (omega arith)

abbrev variant_number : VariantForm → ℕ
variant_number AsVariant = 0
variant_number AsEnum = 1
variant_number AsOption = 2
variant_number AsResult = 3

variant-same : (v w : VariantForm) → variant_number v ≡ variant_number w → v ≡ w
variant-same AsVariant AsVariant e = refl
variant-same AsEnum AsEnum e = refl
variant-same AsOption AsOption e = refl
variant-same AsResult AsResult e = refl
variant-same _ _ e = absurd (omega arith)

-- ---- value types

abbrev mutual
  pub value_tree : Plain → Gv
  value_tree BoolType = form 0 gnil
  value_tree (SignedType w) = form 1 (gnum (width_number w))
  value_tree (UnsignedType w) = form 2 (gnum (width_number w))
  value_tree CharType = form 3 gnil
  value_tree StringType = form 4 gnil
  value_tree (ListType item) = form 5 (value_tree item)
  value_tree (RecordType f fields) = form 6 (form (record_number f) (parts_tree fields))
  value_tree (VariantType f cases) = form 7 (form (variant_number f) (parts_tree cases))
  value_tree (FlagsType labels) = form 8 (names_code.code labels)
  value_tree (OwnType r) = form 9 (gnum r)
  value_tree (BorrowType r) = form 10 (gnum r)

  pub parts_tree : Parts → Gv
  parts_tree NoParts = form 0 gnil
  parts_tree (Part name ty rest) = form 1 (gcons (name_code.code name) (gcons (value_tree ty) (parts_tree rest)))
  parts_tree (Bare name rest) = form 2 (gcons (name_code.code name) (parts_tree rest))

mutual
  pub value-same : (a b : Plain) → value_tree a ≡ value_tree b → a ≡ b
  value-same BoolType BoolType e = refl
  value-same (SignedType v) (SignedType w) e = ap SignedType (width-same v w (ap (λ g. tag (right g)) e))
  value-same (UnsignedType v) (UnsignedType w) e = ap UnsignedType (width-same v w (ap (λ g. tag (right g)) e))
  value-same CharType CharType e = refl
  value-same StringType StringType e = refl
  value-same (ListType a) (ListType b) e = ap ListType (value-same a b (ap right e))
  value-same (RecordType f ps) (RecordType g qs) e =
      let h = record-same f g (ap (λ t. tag (right t)) e) in let k = parts-same ps qs (ap (λ t. right (right t)) e) in cc
  value-same (VariantType f ps) (VariantType g qs) e =
      let h = variant-same f g (ap (λ t. tag (right t)) e) in let k = parts-same ps qs (ap (λ t. right (right t)) e) in cc
  value-same (FlagsType ls) (FlagsType ks) e = ap FlagsType (names_code.inj ls ks (ap right e))
  value-same (OwnType x) (OwnType y) e = ap OwnType (ap (λ t. tag (right t)) e)
  value-same (BorrowType x) (BorrowType y) e = ap BorrowType (ap (λ t. tag (right t)) e)
  value-same a b e = let d = ap tag e in absurd (omega arith)

  pub parts-same : (a b : Parts) → parts_tree a ≡ parts_tree b → a ≡ b
  parts-same NoParts NoParts e = refl
  parts-same (Part m t ps) (Part n u qs) e =
      let h = name_code.inj m n (ap (λ g. left (right g)) e) in
      let k = value-same t u (ap (λ g. left (right (right g))) e) in
      let l = parts-same ps qs (ap (λ g. right (right (right g))) e) in
      cc
  parts-same (Bare m ps) (Bare n qs) e =
      let h = name_code.inj m n (ap (λ g. left (right g)) e) in
      let l = parts-same ps qs (ap (λ g. right (right g)) e) in
      cc
  parts-same a b e = let d = ap tag e in absurd (omega arith)

abbrev pub value_code : Coded Plain
value_code = record { code = value_tree; inj = value-same }

abbrev pub parts_code : Coded Parts
parts_code = record { code = parts_tree; inj = parts-same }

-- ---- functions

abbrev pub func_code : Coded PlainFunc
func_code = code_by (Parts × Opt Plain) (coded× parts_code (coded_option value_code)) (λ f. (f.params, f.answer)) (λ p. record { params = p.0; answer = p.1 }) (λ _. refl)

-- ---- items

abbrev mutual
  pub item_tree : Item → Gv
  item_tree (FuncItem ty) = form 0 (func_code.code ty)
  item_tree (InstanceItem entries) = form 1 (entries_tree entries)
  item_tree (KindItem kind) = form 2 (kind_tree kind)

  pub kind_tree : Kind → Gv
  kind_tree (ResourceKind r) = form 0 (gnum r)
  kind_tree (ValueKind ty) = form 1 (value_tree ty)
  kind_tree (FuncKind ty) = form 2 (func_code.code ty)
  kind_tree (InstanceKind own entries) = form 3 (gcons (name_code.code own) (entries_tree entries))

  pub entries_tree : Entries → Gv
  entries_tree End = form 0 gnil
  entries_tree (More name item rest) = form 1 (gcons (name_code.code name) (gcons (item_tree item) (entries_tree rest)))

mutual
  pub item-same : (a b : Item) → item_tree a ≡ item_tree b → a ≡ b
  item-same (FuncItem f) (FuncItem g) e = ap FuncItem (func_code.inj f g (ap right e))
  item-same (InstanceItem x) (InstanceItem y) e = ap InstanceItem (entries-same x y (ap right e))
  item-same (KindItem x) (KindItem y) e = ap KindItem (kind-same x y (ap right e))
  item-same a b e = let d = ap tag e in absurd (omega arith)

  pub kind-same : (a b : Kind) → kind_tree a ≡ kind_tree b → a ≡ b
  kind-same (ResourceKind x) (ResourceKind y) e = ap ResourceKind (ap (λ t. tag (right t)) e)
  kind-same (ValueKind x) (ValueKind y) e = ap ValueKind (value-same x y (ap right e))
  kind-same (FuncKind f) (FuncKind g) e = ap FuncKind (func_code.inj f g (ap right e))
  kind-same (InstanceKind own x) (InstanceKind other y) e =
      let h = name_code.inj own other (ap (λ g. left (right g)) e) in
      let k = entries-same x y (ap (λ g. right (right g)) e) in
      cc
  kind-same a b e = let d = ap tag e in absurd (omega arith)

  pub entries-same : (a b : Entries) → entries_tree a ≡ entries_tree b → a ≡ b
  entries-same End End e = refl
  entries-same (More m i x) (More n j y) e =
      let h = name_code.inj m n (ap (λ g. left (right g)) e) in
      let k = item-same i j (ap (λ g. left (right (right g))) e) in
      let l = entries-same x y (ap (λ g. right (right (right g))) e) in
      cc
  entries-same a b e = let d = ap tag e in absurd (omega arith)

abbrev pub entries_code : Coded Entries
entries_code = record { code = entries_tree; inj = entries-same }
