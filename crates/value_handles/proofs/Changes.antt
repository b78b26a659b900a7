-- Values with other numbers, by the lists of a type's parts.
use Rattle.std.proofs.Common.{◌≡◌, ◌+◌, ◌≤◌, ◌<◌, ℤ, pos, true≢false, ℕ, zero, suc, ap, refl, sym, ◌∙◌, subst, Bool, true, false, ◌||◌, Option, Some, None, List, [], ◌∷◌, ◌++◌, length, drop, map, get_or, arith, append_assoc}
use Rattle.std.specs.Prelude.{slice_index}
use Rattle.std.proofs.Math.ListN.{drop_of_length-le}
use Rattle.wit_types.specs.declared.types.Case.{Case, out-Case}
use Rattle.wit_types.specs.declared.types.Field.{Field, out-Field}
use Rattle.wit_types.specs.declared.types.WitType.{WitType}
use Rattle.wit_types.specs.declared.value.Value.{Value}
use Rattle.wit_types.specs.Plain.{plain, Name, VariantForm, Plain, Parts, BoolType, SignedType, UnsignedType, CharType, StringType, ListType, RecordType, VariantType, FlagsType, OwnType, BorrowType, End, More, Bare, bare, payload_of, fields_of, types_of, cases_of, case_part}
use Rattle.wit_types.specs.PlainValue.{PlainValue, PlainValues, Payload, BoolValue, IntValue, CharValue, StringValue, ListValue, RecordValue, VariantValue, FlagsValue, HandleValue, End as NoValues, More as Values, Without, With, values_of, byte_values, plain_value}
use Rattle.abi_layout.specs.Handles.{Handle, handles, field_handles, case_handles, item_handles, renumbered, renumbered_fields, renumbered_case, renumbered_items}
use Rattle.value_handles.specs.Whether.{has_handles, parts_have_handles}
use Rattle.value_handles.specs.Payloads.{renumbered_payload}
use Rattle.value_handles.proofs.Laws.{or_left, or_right}

-- ---- a type without handles

pub items_stay : (find : PlainValue → List Handle) (change : PlainValue → List ℕ → PlainValue) → ((v : PlainValue) (ns : List ℕ) → change v ns ≡ v) → (vs : PlainValues) (ns : List ℕ) → renumbered_items find change vs ns ≡ vs
items_stay find change h NoValues ns = refl
items_stay find change h (Values v vs) ns = rw (h v ns, items_stay find change h vs (drop (length (find v)) ns)) refl

mutual
  pub stays : (ty : Plain) (v : PlainValue) (ns : List ℕ) → has_handles ty ≡ false → renumbered ty v ns ≡ v
  stays BoolType v ns e = refl
  stays (SignedType _) v ns e = refl
  stays (UnsignedType _) v ns e = refl
  stays CharType v ns e = refl
  stays StringType v ns e = refl
  stays (ListType item) (ListValue vs) ns e = ap ListValue (items_stay (λ x. handles item x) (λ x ms. renumbered item x ms) (λ x ms. stays item x ms e) vs ns)
  stays (ListType item) _ ns e = refl
  stays (RecordType _ fields) (RecordValue vs) ns e = ap RecordValue (fields_stay fields vs ns e)
  stays (RecordType _ fields) _ ns e = refl
  stays (VariantType _ cases) (VariantValue n payload) ns e = ap (VariantValue n) (case_stays cases n payload ns e)
  stays (VariantType _ cases) _ ns e = refl
  stays (FlagsType _) v ns e = refl
  stays (OwnType _) v ns e = absurd (true≢false e)
  stays (BorrowType _) v ns e = absurd (true≢false e)

  pub fields_stay : (ps : Parts) (vs : PlainValues) (ns : List ℕ) → parts_have_handles ps ≡ false → renumbered_fields ps vs ns ≡ vs
  fields_stay End vs ns e = refl
  fields_stay (More _ ty rest) NoValues ns e = refl
  fields_stay (More _ ty rest) (Values v vs) ns e =
      ap (λ x. Values x (renumbered_fields rest vs (drop (length (handles ty v)) ns))) (stays ty v ns (or_left (has_handles ty) (parts_have_handles rest) e))
      ∙ ap (Values v) (fields_stay rest vs (drop (length (handles ty v)) ns) (or_right (has_handles ty) (parts_have_handles rest) e))
  fields_stay (Bare _ rest) vs ns e = fields_stay rest vs ns e

  pub case_stays : (ps : Parts) (n : ℕ) (payload : Payload) (ns : List ℕ) → parts_have_handles ps ≡ false → renumbered_case ps n payload ns ≡ payload
  case_stays End n payload ns e = refl
  case_stays (More _ ty rest) zero Without ns e = refl
  case_stays (More _ ty rest) zero (With v) ns e = ap With (stays ty v ns (or_left (has_handles ty) (parts_have_handles rest) e))
  case_stays (More _ ty rest) (suc n) payload ns e = case_stays rest n payload ns (or_right (has_handles ty) (parts_have_handles rest) e)
  case_stays (Bare _ rest) zero payload ns e = refl
  case_stays (Bare _ rest) (suc n) payload ns e = case_stays rest n payload ns e

-- ---- bytes are no handles

int_stays : (ty : Plain) (n : ℤ) (ns : List ℕ) → renumbered ty (IntValue n) ns ≡ IntValue n
int_stays BoolType n ns = refl
int_stays (SignedType _) n ns = refl
int_stays (UnsignedType _) n ns = refl
int_stays CharType n ns = refl
int_stays StringType n ns = refl
int_stays (ListType item) n ns = refl
int_stays (RecordType _ fields) n ns = refl
int_stays (VariantType _ cases) n ns = refl
int_stays (FlagsType _) n ns = refl
int_stays (OwnType _) n ns = refl
int_stays (BorrowType _) n ns = refl

pub bytes_items_stay : (ty : Plain) (bs : List ℕ) (ns : List ℕ) → renumbered_items (λ v. handles ty v) (λ v ms. renumbered ty v ms) (byte_values bs) ns ≡ byte_values bs
bytes_items_stay ty [] ns = refl
bytes_items_stay ty (b ∷ bs) ns = rw (int_stays ty (pos b) ns, bytes_items_stay ty bs (drop (length (handles ty (IntValue (pos b)))) ns)) refl

pub bytes_fields_stay : (ps : Parts) (bs : List ℕ) (ns : List ℕ) → renumbered_fields ps (byte_values bs) ns ≡ byte_values bs
bytes_fields_stay End bs ns = refl
bytes_fields_stay (More _ ty rest) [] ns = refl
bytes_fields_stay (More _ ty rest) (b ∷ bs) ns = rw (int_stays ty (pos b) ns, bytes_fields_stay rest bs (drop (length (handles ty (IntValue (pos b)))) ns)) refl
bytes_fields_stay (Bare _ rest) bs ns = bytes_fields_stay rest bs ns

-- ---- cases

case_first : (name : Name) (ty : Option Plain) (rest : Parts) (p : Payload) (ns : List ℕ) → renumbered_case (case_part name ty rest) zero p ns ≡ renumbered_payload ty p ns
case_first name None rest p ns = refl
case_first name (Some t) rest p ns = refl

case_later : (name : Name) (ty : Option Plain) (rest : Parts) (n : ℕ) (p : Payload) (ns : List ℕ) → renumbered_case (case_part name ty rest) (suc n) p ns ≡ renumbered_case rest n p ns
case_later name None rest n p ns = refl
case_later name (Some t) rest n p ns = refl

pub change_at : (cs : List Case) (n : ℕ) (d : Case) (p : Payload) (ns : List ℕ) → n < length cs → renumbered_case (cases_of cs) n p ns ≡ renumbered_payload (payload_of (out-Case (get_or cs n d)).ty) p ns
change_at [] n d p ns lt = absurd (omega arith)
change_at (c ∷ cs) zero d p ns lt = case_first _ (payload_of (out-Case c).ty) _ p ns
change_at (c ∷ cs) (suc n) d p ns lt = case_later _ (payload_of (out-Case c).ty) _ n p ns ∙ change_at cs n d p ns (omega arith)

pub change_past : (cs : List Case) (n : ℕ) (p : Payload) (ns : List ℕ) → length cs ≤ n → renumbered_case (cases_of cs) n p ns ≡ p
change_past [] n p ns le = refl
change_past (c ∷ cs) zero p ns le = absurd (omega arith)
change_past (c ∷ cs) (suc n) p ns le = case_later _ (payload_of (out-Case c).ty) _ n p ns ∙ change_past cs n p ns (omega arith)

pub labels_stay : (form : VariantForm) (labels : List Name) (v : PlainValue) (ns : List ℕ) → renumbered (VariantType form (bare labels)) v ns ≡ v
labels_stay form labels (VariantValue n p) ns = ap (VariantValue n) (each labels n)
  where
    each : (ls : List Name) (k : ℕ) → renumbered_case (bare ls) k p ns ≡ p
    each [] k = refl
    each (l ∷ ls) zero = refl
    each (l ∷ ls) (suc k) = each ls k
labels_stay form labels _ ns = refl

pub first_left : (ns : List ℕ) (n : ℕ) → slice_index (drop n ns) 0 ≡ slice_index ns n
first_left [] zero = refl
first_left [] (suc n) = refl
first_left (x ∷ ns) zero = refl
first_left (x ∷ ns) (suc n) = first_left ns n

pub ruleset changed = (first_left, change_past, bytes_items_stay, bytes_fields_stay, labels_stay)
