-- With its own numbers for its handles a value is as it was.
use Rattle.std.proofs.Common.{◌≡◌, ℕ, zero, suc, ap, refl, sym, ◌∙◌, List, [], ◌∷◌, ◌++◌, length, drop, map, append-nil}
use Rattle.wit_types.specs.Plain.{Plain, Parts, BoolType, SignedType, UnsignedType, CharType, StringType, ListType, RecordType, VariantType, FlagsType, OwnType, BorrowType, End, More, Bare}
use Rattle.wit_types.specs.PlainValue.{PlainValue, PlainValues, Payload, ListValue, RecordValue, VariantValue, HandleValue, End as NoValues, More as Values, Without, With}
use Rattle.abi_layout.specs.Handles.{Handle, handles, field_handles, case_handles, item_handles, renumbered, renumbered_fields, renumbered_case, renumbered_items}

abbrev pub numbers : List Handle → List ℕ
numbers hs = map (λ (h : Handle). h.number) hs

cut : (hs ks : List Handle) (tail : List ℕ) → numbers (hs ++ ks) ++ tail ≡ numbers hs ++ (numbers ks ++ tail)
cut [] ks tail = refl
cut (h ∷ hs) ks tail = ap (λ (xs : List ℕ). h.number ∷ xs) (cut hs ks tail)

past : (hs : List Handle) (xs : List ℕ) → drop (length hs) (numbers hs ++ xs) ≡ xs
past [] xs = refl
past (h ∷ hs) xs = past hs xs

own_items : (find : PlainValue → List Handle) (change : PlainValue → List ℕ → PlainValue) → ((v : PlainValue) (tail : List ℕ) → change v (numbers (find v) ++ tail) ≡ v) → (vs : PlainValues) (tail : List ℕ) →
    renumbered_items find change vs (numbers (item_handles find vs) ++ tail) ≡ vs
own_items find change h NoValues tail = refl
own_items find change h (Values v vs) tail =
    ap (λ (xs : List ℕ). Values (change v xs) (renumbered_items find change vs (drop (length (find v)) xs))) (cut (find v) (item_handles find vs) tail)
    ∙ ap (λ x. Values x (renumbered_items find change vs (drop (length (find v)) (numbers (find v) ++ (numbers (item_handles find vs) ++ tail))))) (h v (numbers (item_handles find vs) ++ tail))
    ∙ ap (λ (xs : List ℕ). Values v (renumbered_items find change vs xs)) (past (find v) (numbers (item_handles find vs) ++ tail))
    ∙ ap (Values v) (own_items find change h vs tail)

mutual
  own : (ty : Plain) (v : PlainValue) (tail : List ℕ) → renumbered ty v (numbers (handles ty v) ++ tail) ≡ v
  own BoolType v tail = refl
  own (SignedType _) v tail = refl
  own (UnsignedType _) v tail = refl
  own CharType v tail = refl
  own StringType v tail = refl
  own (ListType item) (ListValue vs) tail = ap ListValue (own_items (λ x. handles item x) (λ x ns. renumbered item x ns) (λ x ns. own item x ns) vs tail)
  own (ListType item) _ tail = refl
  own (RecordType _ fields) (RecordValue vs) tail = ap RecordValue (own_fields fields vs tail)
  own (RecordType _ fields) _ tail = refl
  own (VariantType _ cases) (VariantValue n payload) tail = ap (VariantValue n) (own_case cases n payload tail)
  own (VariantType _ cases) _ tail = refl
  own (FlagsType _) v tail = refl
  own (OwnType _) (HandleValue n) tail = refl
  own (OwnType _) _ tail = refl
  own (BorrowType _) (HandleValue n) tail = refl
  own (BorrowType _) _ tail = refl

  own_fields : (ps : Parts) (vs : PlainValues) (tail : List ℕ) → renumbered_fields ps vs (numbers (field_handles ps vs) ++ tail) ≡ vs
  own_fields End vs tail = refl
  own_fields (More _ ty rest) NoValues tail = refl
  own_fields (More _ ty rest) (Values v vs) tail =
      ap (λ (xs : List ℕ). Values (renumbered ty v xs) (renumbered_fields rest vs (drop (length (handles ty v)) xs))) (cut (handles ty v) (field_handles rest vs) tail)
      ∙ ap (λ x. Values x (renumbered_fields rest vs (drop (length (handles ty v)) (numbers (handles ty v) ++ (numbers (field_handles rest vs) ++ tail))))) (own ty v (numbers (field_handles rest vs) ++ tail))
      ∙ ap (λ (xs : List ℕ). Values v (renumbered_fields rest vs xs)) (past (handles ty v) (numbers (field_handles rest vs) ++ tail))
      ∙ ap (Values v) (own_fields rest vs tail)
  own_fields (Bare _ rest) vs tail = own_fields rest vs tail

  own_case : (ps : Parts) (n : ℕ) (payload : Payload) (tail : List ℕ) → renumbered_case ps n payload (numbers (case_handles ps n payload) ++ tail) ≡ payload
  own_case End n payload tail = refl
  own_case (More _ ty rest) zero Without tail = refl
  own_case (More _ ty rest) zero (With v) tail = ap With (own ty v tail)
  own_case (More _ ty rest) (suc n) payload tail = own_case rest n payload tail
  own_case (Bare _ rest) zero payload tail = refl
  own_case (Bare _ rest) (suc n) payload tail = own_case rest n payload tail

pub own_numbers : (ty : Plain) (v : PlainValue) → renumbered ty v (numbers (handles ty v)) ≡ v
own_numbers ty v = ap (renumbered ty v) (sym (append-nil (numbers (handles ty v)))) ∙ own ty v []
