-- Handles by the lists of a type's parts.
use Rattle.std.proofs.Common.{◌≡◌, ◌+◌, ℤ, pos, true≢false, subst, append-nil, append_assoc, map, ◌≤◌, ◌<◌, ℕ, zero, suc, ap, refl, sym, ◌∙◌, Bool, true, false, ◌||◌, Option, Some, None, List, [], ◌∷◌, ◌++◌, length, drop, get_or, arith}
use Rattle.wit_types.specs.declared.types.Case.{Case, out-Case}
use Rattle.wit_types.specs.declared.types.Field.{Field, out-Field}
use Rattle.wit_types.specs.declared.types.WitType.{WitType}
use Rattle.wit_types.specs.declared.value.Value.{Value}
use Rattle.std.proofs.Math.ListN.{drop_of_length-le}
use Rattle.value_handles.specs.declared.handle.ValueHandle.{ValueHandle}
use Rattle.value_handles.specs.Shown.{handle_of, shown}
use Rattle.wit_types.specs.Plain.{plain, Name, VariantForm, Plain, Parts, BoolType, SignedType, UnsignedType, CharType, StringType, ListType, RecordType, VariantType, FlagsType, OwnType, BorrowType, End, More, Bare, bare, payload_of, fields_of, types_of, cases_of, case_part}
use Rattle.wit_types.specs.PlainValue.{PlainValue, PlainValues, Payload, BoolValue, IntValue, CharValue, StringValue, ListValue, RecordValue, VariantValue, FlagsValue, HandleValue, End as NoValues, More as Values, Without, With, values_of, byte_values, plain_value}
use Rattle.abi_layout.specs.Storing.{on_variant}
use Rattle.abi_layout.specs.Handles.{Handle, handles, field_handles, case_handles, item_handles}
use Rattle.value_handles.specs.Whether.{has_handles, parts_have_handles}
use Rattle.value_handles.specs.Parts.{payload_handles}

pub or_left : (a b : Bool) → (a || b) ≡ false → a ≡ false
or_left true b e = absurd (true≢false e)
or_left false b e = refl

pub or_right : (a b : Bool) → (a || b) ≡ false → b ≡ false
or_right true b e = absurd (true≢false e)
or_right false b e = e

pub none_in_items : (find : PlainValue → List Handle) → ((v : PlainValue) → find v ≡ []) → (vs : PlainValues) → item_handles find vs ≡ []
none_in_items find h NoValues = refl
none_in_items find h (Values v vs) = rw (h v) (none_in_items find h vs)

-- ---- a type without handles

mutual
  pub no_handles : (ty : Plain) (v : PlainValue) → has_handles ty ≡ false → handles ty v ≡ []
  no_handles BoolType v e = refl
  no_handles (SignedType _) v e = refl
  no_handles (UnsignedType _) v e = refl
  no_handles CharType v e = refl
  no_handles StringType v e = refl
  no_handles (ListType item) (ListValue vs) e = none_in_items (λ x. handles item x) (λ x. no_handles item x e) vs
  no_handles (ListType item) _ e = refl
  no_handles (RecordType _ fields) (RecordValue vs) e = no_field_handles fields vs e
  no_handles (RecordType _ fields) _ e = refl
  no_handles (VariantType _ cases) (VariantValue n payload) e = no_case_handles cases n payload e
  no_handles (VariantType _ cases) _ e = refl
  no_handles (FlagsType _) v e = refl
  no_handles (OwnType _) v e = absurd (true≢false e)
  no_handles (BorrowType _) v e = absurd (true≢false e)

  no_field_handles : (ps : Parts) (vs : PlainValues) → parts_have_handles ps ≡ false → field_handles ps vs ≡ []
  no_field_handles End vs e = refl
  no_field_handles (More _ ty rest) NoValues e = refl
  no_field_handles (More _ ty rest) (Values v vs) e =
      rw (no_handles ty v (or_left (has_handles ty) (parts_have_handles rest) e)) (no_field_handles rest vs (or_right (has_handles ty) (parts_have_handles rest) e))
  no_field_handles (Bare _ rest) vs e = no_field_handles rest vs e

  no_case_handles : (ps : Parts) (n : ℕ) (payload : Payload) → parts_have_handles ps ≡ false → case_handles ps n payload ≡ []
  no_case_handles End n payload e = refl
  no_case_handles (More _ ty rest) zero Without e = refl
  no_case_handles (More _ ty rest) zero (With v) e = no_handles ty v (or_left (has_handles ty) (parts_have_handles rest) e)
  no_case_handles (More _ ty rest) (suc n) payload e = no_case_handles rest n payload (or_right (has_handles ty) (parts_have_handles rest) e)
  no_case_handles (Bare _ rest) zero payload e = refl
  no_case_handles (Bare _ rest) (suc n) payload e = no_case_handles rest n payload e

-- ---- bytes are no handles

pub int_handles : (ty : Plain) (n : ℤ) → handles ty (IntValue n) ≡ []
int_handles BoolType n = refl
int_handles (SignedType _) n = refl
int_handles (UnsignedType _) n = refl
int_handles CharType n = refl
int_handles StringType n = refl
int_handles (ListType item) n = refl
int_handles (RecordType _ fields) n = refl
int_handles (VariantType _ cases) n = refl
int_handles (FlagsType _) n = refl
int_handles (OwnType _) n = refl
int_handles (BorrowType _) n = refl

pub bytes_items : (ty : Plain) (bs : List ℕ) → item_handles (λ v. handles ty v) (byte_values bs) ≡ []
bytes_items ty [] = refl
bytes_items ty (b ∷ bs) = rw (int_handles ty (pos b)) (bytes_items ty bs)

pub bytes_fields : (ps : Parts) (bs : List ℕ) → field_handles ps (byte_values bs) ≡ []
bytes_fields End bs = refl
bytes_fields (More _ ty rest) [] = refl
bytes_fields (More _ ty rest) (b ∷ bs) = rw (int_handles ty (pos b)) (bytes_fields rest bs)
bytes_fields (Bare _ rest) bs = bytes_fields rest bs

-- ---- cases

case_first : (name : Name) (ty : Option Plain) (rest : Parts) (p : Payload) → case_handles (case_part name ty rest) zero p ≡ payload_handles ty p
case_first name None rest p = refl
case_first name (Some t) rest p = refl

case_later : (name : Name) (ty : Option Plain) (rest : Parts) (n : ℕ) (p : Payload) → case_handles (case_part name ty rest) (suc n) p ≡ case_handles rest n p
case_later name None rest n p = refl
case_later name (Some t) rest n p = refl

pub case_at : (cs : List Case) (n : ℕ) (d : Case) (p : Payload) → n < length cs → case_handles (cases_of cs) n p ≡ payload_handles (payload_of (out-Case (get_or cs n d)).ty) p
case_at [] n d p lt = absurd (omega arith)
case_at (c ∷ cs) zero d p lt = case_first _ (payload_of (out-Case c).ty) _ p
case_at (c ∷ cs) (suc n) d p lt = case_later _ (payload_of (out-Case c).ty) _ n p ∙ case_at cs n d p (omega arith)

pub case_past : (cs : List Case) (n : ℕ) (p : Payload) → length cs ≤ n → case_handles (cases_of cs) n p ≡ []
case_past [] n p le = refl
case_past (c ∷ cs) zero p le = absurd (omega arith)
case_past (c ∷ cs) (suc n) p le = case_later _ (payload_of (out-Case c).ty) _ n p ∙ case_past cs n p (omega arith)

pub no_label_handles : (form : VariantForm) (labels : List Name) (v : PlainValue) → handles (VariantType form (bare labels)) v ≡ []
no_label_handles form labels (VariantValue n p) = each labels n
  where
    each : (ls : List Name) (k : ℕ) → case_handles (bare ls) k p ≡ []
    each [] k = refl
    each (l ∷ ls) zero = refl
    each (l ∷ ls) (suc k) = each ls k
no_label_handles form labels _ = refl

pub no_label_types : (labels : List Name) → parts_have_handles (bare labels) ≡ false
no_label_types [] = refl
no_label_types (l ∷ ls) = no_label_types ls

-- ---- lists of handles

pub shown-push : (hs : List ValueHandle) (h : ValueHandle) → shown (hs ++ h ∷ []) ≡ shown hs ++ handle_of h ∷ []
shown-push [] h = refl
shown-push (x ∷ hs) h = ap (λ (ys : List Handle). handle_of x ∷ ys) (shown-push hs h)

pub items_more : (find : PlainValue → List Handle) (a b t : List Handle) (vs : List Value) (i : ℕ) (v : Value) → drop i vs ≡ v ∷ drop (i + 1) vs →
    a ++ item_handles find (values_of (drop i vs)) ≡ t → b ≡ a ++ find (plain_value v) → b ++ item_handles find (values_of (drop (i + 1) vs)) ≡ t
items_more find a b t vs i v cut h e = rw e (append_assoc a _ _ ∙ sym (ap (λ xs. a ++ item_handles find (values_of xs)) cut) ∙ h)

pub fields_more : (a b t : List Handle) (fs : List Field) (vs : List Value) (i : ℕ) (f : Field) (v : Value) → drop i fs ≡ f ∷ drop (i + 1) fs → drop i vs ≡ v ∷ drop (i + 1) vs →
    a ++ field_handles (fields_of (drop i fs)) (values_of (drop i vs)) ≡ t → b ≡ a ++ handles (plain (out-Field f).ty) (plain_value v) →
    b ++ field_handles (fields_of (drop (i + 1) fs)) (values_of (drop (i + 1) vs)) ≡ t
fields_more a b t fs vs i f v cut cut' h e =
    rw e (append_assoc a _ _ ∙ sym (ap (λ xs. a ++ field_handles (fields_of xs) (values_of (v ∷ drop (i + 1) vs))) cut) ∙ sym (ap (λ xs. a ++ field_handles (fields_of (drop i fs)) (values_of xs)) cut') ∙ h)

pub types_more : (a b t : List Handle) (ts : List WitType) (vs : List Value) (i : ℕ) (ty : WitType) (v : Value) → drop i ts ≡ ty ∷ drop (i + 1) ts → drop i vs ≡ v ∷ drop (i + 1) vs →
    a ++ field_handles (types_of (drop i ts)) (values_of (drop i vs)) ≡ t → b ≡ a ++ handles (plain ty) (plain_value v) →
    b ++ field_handles (types_of (drop (i + 1) ts)) (values_of (drop (i + 1) vs)) ≡ t
types_more a b t ts vs i ty v cut cut' h e =
    rw e (append_assoc a _ _ ∙ sym (ap (λ xs. a ++ field_handles (types_of xs) (values_of (v ∷ drop (i + 1) vs))) cut) ∙ sym (ap (λ xs. a ++ field_handles (types_of (drop i ts)) (values_of xs)) cut') ∙ h)

-- after the last value there is none
pub no_value_left : (ps : Parts) (vs : List Value) (i : ℕ) → length vs ≤ i → field_handles ps (values_of (drop i vs)) ≡ []
no_value_left ps vs i le = rw (drop_of_length-le vs le) (none ps)
  where
    none : (qs : Parts) → field_handles qs NoValues ≡ []
    none End = refl
    none (More _ ty rest) = refl
    none (Bare _ rest) = none rest

pub ended : (a x t : List Handle) → a ++ x ≡ t → x ≡ [] → a ≡ t
ended a x t h e = sym (append-nil a) ∙ sym (ap (λ y. a ++ y) e) ∙ h

pub ruleset laws = (append-nil, shown-push, case_past, bytes_items, bytes_fields, no_label_handles, no_label_types)
