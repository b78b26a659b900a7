-- Values with other numbers for their handles.
use Rattle.std.proofs.Common.{◌≡◌, ℕ, zero, suc, ap, refl, sym, ◌∙◌, Bool, List, [], ◌∷◌, ◌++◌, length, drop, ◌&&◌}
use Rattle.std.specs.Prelude.{slice_index}
use Rattle.wit_types.specs.Plain.{Plain, Parts, BoolType, SignedType, UnsignedType, CharType, StringType, ListType, RecordType, VariantType, FlagsType, OwnType, BorrowType, End, More, Bare}
use Rattle.wit_types.specs.PlainValue.{PlainValue, PlainValues, Payload, ListValue, RecordValue, VariantValue, HandleValue, End as NoValues, More as Values, Without, With}
use Rattle.wit_types.specs.HasType.{is_of, are_of, is_of_case, all_pass}
use Rattle.abi_layout.specs.Handles.{Handle, handles, field_handles, case_handles, item_handles, renumbered, renumbered_fields, renumbered_case, renumbered_items, with_numbers}

drop-nil : (n : ℕ) → drop n (let none : List ℕ = [] in none) ≡ []
drop-nil zero = refl
drop-nil (suc n) = refl

drop-one : (n : ℕ) (ns : List ℕ) → drop n (drop 1 ns) ≡ drop (suc n) ns
drop-one n [] = drop-nil n
drop-one n (m ∷ ns) = refl

with_numbers-append : (xs ys : List Handle) (ns : List ℕ) → with_numbers (xs ++ ys) ns ≡ with_numbers xs ns ++ with_numbers ys (drop (length xs) ns)
with_numbers-append [] ys ns = refl
with_numbers-append (x ∷ xs) ys ns =
    let h : Handle = record { ty = x.ty; number = slice_index ns 0 } in
    ap (λ (hs : List Handle). h ∷ hs) (with_numbers-append xs ys (drop 1 ns) ∙ ap (λ ms. with_numbers xs (drop 1 ns) ++ with_numbers ys ms) (drop-one (length xs) ns))

items_keep : (find : PlainValue → List Handle) (change : PlainValue → List ℕ → PlainValue) → ((v : PlainValue) (ns : List ℕ) → find (change v ns) ≡ with_numbers (find v) ns) →
    (vs : PlainValues) (ns : List ℕ) → item_handles find (renumbered_items find change vs ns) ≡ with_numbers (item_handles find vs) ns
items_keep find change h NoValues ns = refl
items_keep find change h (Values v vs) ns =
    ap (λ hs. hs ++ item_handles find (renumbered_items find change vs (drop (length (find v)) ns))) (h v ns)
    ∙ ap (λ hs. with_numbers (find v) ns ++ hs) (items_keep find change h vs (drop (length (find v)) ns))
    ∙ sym (with_numbers-append (find v) (item_handles find vs) ns)

mutual
  pub handles_keep : (ty : Plain) (v : PlainValue) (ns : List ℕ) → handles ty (renumbered ty v ns) ≡ with_numbers (handles ty v) ns
  handles_keep BoolType v ns = refl
  handles_keep (SignedType _) v ns = refl
  handles_keep (UnsignedType _) v ns = refl
  handles_keep CharType v ns = refl
  handles_keep StringType v ns = refl
  handles_keep (ListType item) (ListValue vs) ns = items_keep (λ x. handles item x) (λ x ms. renumbered item x ms) (λ x ms. handles_keep item x ms) vs ns
  handles_keep (ListType item) _ ns = refl
  handles_keep (RecordType _ fields) (RecordValue vs) ns = fields_keep fields vs ns
  handles_keep (RecordType _ fields) _ ns = refl
  handles_keep (VariantType _ cases) (VariantValue n payload) ns = case_keeps cases n payload ns
  handles_keep (VariantType _ cases) _ ns = refl
  handles_keep (FlagsType _) v ns = refl
  handles_keep (OwnType _) (HandleValue n) ns = refl
  handles_keep (OwnType _) _ ns = refl
  handles_keep (BorrowType _) (HandleValue n) ns = refl
  handles_keep (BorrowType _) _ ns = refl

  fields_keep : (ps : Parts) (vs : PlainValues) (ns : List ℕ) → field_handles ps (renumbered_fields ps vs ns) ≡ with_numbers (field_handles ps vs) ns
  fields_keep End vs ns = refl
  fields_keep (More _ ty rest) NoValues ns = refl
  fields_keep (More _ ty rest) (Values v vs) ns =
      ap (λ hs. hs ++ field_handles rest (renumbered_fields rest vs (drop (length (handles ty v)) ns))) (handles_keep ty v ns)
      ∙ ap (λ hs. with_numbers (handles ty v) ns ++ hs) (fields_keep rest vs (drop (length (handles ty v)) ns))
      ∙ sym (with_numbers-append (handles ty v) (field_handles rest vs) ns)
  fields_keep (Bare _ rest) vs ns = fields_keep rest vs ns

  case_keeps : (ps : Parts) (n : ℕ) (payload : Payload) (ns : List ℕ) → case_handles ps n (renumbered_case ps n payload ns) ≡ with_numbers (case_handles ps n payload) ns
  case_keeps End n payload ns = refl
  case_keeps (More _ ty rest) zero Without ns = refl
  case_keeps (More _ ty rest) zero (With v) ns = handles_keep ty v ns
  case_keeps (More _ ty rest) (suc n) payload ns = case_keeps rest n payload ns
  case_keeps (Bare _ rest) zero payload ns = refl
  case_keeps (Bare _ rest) (suc n) payload ns = case_keeps rest n payload ns

-- ---- of the same type

items_pass : (test : PlainValue → Bool) (find : PlainValue → List Handle) (change : PlainValue → List ℕ → PlainValue) → ((v : PlainValue) (ns : List ℕ) → test (change v ns) ≡ test v) →
    (vs : PlainValues) (ns : List ℕ) → all_pass test (renumbered_items find change vs ns) ≡ all_pass test vs
items_pass test find change h NoValues ns = refl
items_pass test find change h (Values v vs) ns =
    ap (λ b. b && all_pass test (renumbered_items find change vs (drop (length (find v)) ns))) (h v ns)
    ∙ ap (λ b. test v && b) (items_pass test find change h vs (drop (length (find v)) ns))

mutual
  pub types_keep : (ty : Plain) (v : PlainValue) (ns : List ℕ) → is_of ty (renumbered ty v ns) ≡ is_of ty v
  types_keep BoolType v ns = refl
  types_keep (SignedType _) v ns = refl
  types_keep (UnsignedType _) v ns = refl
  types_keep CharType v ns = refl
  types_keep StringType v ns = refl
  types_keep (ListType item) (ListValue vs) ns = items_pass (λ x. is_of item x) (λ x. handles item x) (λ x ms. renumbered item x ms) (λ x ms. types_keep item x ms) vs ns
  types_keep (ListType item) _ ns = refl
  types_keep (RecordType _ fields) (RecordValue vs) ns = field_types_keep fields vs ns
  types_keep (RecordType _ fields) _ ns = refl
  types_keep (VariantType _ cases) (VariantValue n payload) ns = case_types_keep cases n payload ns
  types_keep (VariantType _ cases) _ ns = refl
  types_keep (FlagsType _) v ns = refl
  types_keep (OwnType _) (HandleValue n) ns = refl
  types_keep (OwnType _) _ ns = refl
  types_keep (BorrowType _) (HandleValue n) ns = refl
  types_keep (BorrowType _) _ ns = refl

  field_types_keep : (ps : Parts) (vs : PlainValues) (ns : List ℕ) → are_of ps (renumbered_fields ps vs ns) ≡ are_of ps vs
  field_types_keep End vs ns = refl
  field_types_keep (More _ ty rest) NoValues ns = refl
  field_types_keep (More _ ty rest) (Values v vs) ns =
      ap (λ b. b && are_of rest (renumbered_fields rest vs (drop (length (handles ty v)) ns))) (types_keep ty v ns)
      ∙ ap (λ b. is_of ty v && b) (field_types_keep rest vs (drop (length (handles ty v)) ns))
  field_types_keep (Bare _ rest) vs ns = field_types_keep rest vs ns

  case_types_keep : (ps : Parts) (n : ℕ) (payload : Payload) (ns : List ℕ) → is_of_case ps n (renumbered_case ps n payload ns) ≡ is_of_case ps n payload
  case_types_keep End n payload ns = refl
  case_types_keep (More _ ty rest) zero Without ns = refl
  case_types_keep (More _ ty rest) zero (With v) ns = types_keep ty v ns
  case_types_keep (More _ ty rest) (suc n) payload ns = case_types_keep rest n payload ns
  case_types_keep (Bare _ rest) zero payload ns = refl
  case_types_keep (Bare _ rest) (suc n) payload ns = case_types_keep rest n payload ns
