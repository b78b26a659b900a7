-- A value of a type has as many flat values as the type.
use Rattle.std.proofs.Common.{◌≡◌, ◌≤◌, ◌+◌, ◌-◌, ◌&&◌, ℕ, zero, suc, Bool, true, false, List, [], ◌∷◌, ◌++◌, length, refl, sym, ap, subst, ◌∙◌, arith, length-append}
use Rattle.std.specs.Prelude.{replicate}
use Rattle.std.proofs.lemmas.List.{length-replicate}
use Rattle.virt_base.specs.declared.core_type.CoreType.{CoreType}
use Rattle.wit_types.specs.Plain.{OneByte, TwoBytes, FourBytes, EightBytes, Plain, Parts, BoolType, SignedType, UnsignedType, CharType, StringType, ListType, RecordType, VariantType, FlagsType, OwnType, BorrowType, End, More, Bare}
use Rattle.wit_types.specs.PlainValue.{PlainValue, PlainValues, Payload, BoolValue, IntValue, CharValue, StringValue, ListValue, RecordValue, VariantValue, FlagsValue, HandleValue, End as NoValues, More as Values, Without, With}
use Rattle.wit_types.specs.HasType.{is_of, are_of, is_of_case}
use Rattle.wit_types.specs.Layout.{flat, flat_fields, flat_cases, join}
use Rattle.abi_layout.specs.Storing.{FlatItem, Number, Lowered, requests, lower_flat, lower_fields, lower_case}

both_true : (a b : Bool) → (a && b) ≡ true → (a ≡ true) × (b ≡ true)
both_true true true e = (refl, refl)
both_true true false e = absurd (cc)
both_true false b e = absurd (cc)

join_left : (xs ys : List CoreType) → length xs ≤ length (join xs ys)
join_left [] ys = omega arith
join_left (x ∷ xs) [] = omega arith
join_left (x ∷ xs) (y ∷ ys) = let le = join_left xs ys in omega arith

join_right : (xs ys : List CoreType) → length ys ≤ length (join xs ys)
join_right [] ys = omega arith
join_right (x ∷ xs) [] = omega arith
join_right (x ∷ xs) (y ∷ ys) = let le = join_right xs ys in omega arith

padded : (xs : List FlatItem) (width n : ℕ) → length xs ≤ width → length (Number n ∷ (xs ++ replicate (width - length xs) (Number 0))) ≡ width + 1
padded xs width n le = omega (arith, length-append xs (replicate (width - length xs) (Number 0)), length-replicate (width - length xs) (Number 0))

mutual
  pub flats_count : (ty : Plain) (v : PlainValue) (k : ℕ) → is_of ty v ≡ true → length (lower_flat ty v k).flats ≡ length (flat ty)
  flats_count BoolType v k h = refl
  flats_count (SignedType OneByte) v k h = refl
  flats_count (SignedType TwoBytes) v k h = refl
  flats_count (SignedType FourBytes) v k h = refl
  flats_count (SignedType EightBytes) v k h = refl
  flats_count (UnsignedType OneByte) v k h = refl
  flats_count (UnsignedType TwoBytes) v k h = refl
  flats_count (UnsignedType FourBytes) v k h = refl
  flats_count (UnsignedType EightBytes) v k h = refl
  flats_count CharType v k h = refl
  flats_count StringType (StringValue bytes) k h = refl
  flats_count StringType (BoolValue _) k h = absurd (cc)
  flats_count StringType (IntValue _) k h = absurd (cc)
  flats_count StringType (CharValue _) k h = absurd (cc)
  flats_count StringType (ListValue _) k h = absurd (cc)
  flats_count StringType (RecordValue _) k h = absurd (cc)
  flats_count StringType (VariantValue _ _) k h = absurd (cc)
  flats_count StringType (FlagsValue _) k h = absurd (cc)
  flats_count StringType (HandleValue _) k h = absurd (cc)
  flats_count (ListType item) (ListValue vs) k h = refl
  flats_count (ListType item) (BoolValue _) k h = absurd (cc)
  flats_count (ListType item) (IntValue _) k h = absurd (cc)
  flats_count (ListType item) (CharValue _) k h = absurd (cc)
  flats_count (ListType item) (StringValue _) k h = absurd (cc)
  flats_count (ListType item) (RecordValue _) k h = absurd (cc)
  flats_count (ListType item) (VariantValue _ _) k h = absurd (cc)
  flats_count (ListType item) (FlagsValue _) k h = absurd (cc)
  flats_count (ListType item) (HandleValue _) k h = absurd (cc)
  flats_count (RecordType _ fields) (RecordValue vs) k h = fields_count fields vs k h
  flats_count (RecordType _ fields) (BoolValue _) k h = absurd (cc)
  flats_count (RecordType _ fields) (IntValue _) k h = absurd (cc)
  flats_count (RecordType _ fields) (CharValue _) k h = absurd (cc)
  flats_count (RecordType _ fields) (StringValue _) k h = absurd (cc)
  flats_count (RecordType _ fields) (ListValue _) k h = absurd (cc)
  flats_count (RecordType _ fields) (VariantValue _ _) k h = absurd (cc)
  flats_count (RecordType _ fields) (FlagsValue _) k h = absurd (cc)
  flats_count (RecordType _ fields) (HandleValue _) k h = absurd (cc)
  flats_count (VariantType _ cases) (VariantValue n payload) k h = let e = padded (lower_case cases n payload k).flats (length (flat_cases cases)) n (case_few cases n payload k h) in omega arith
  flats_count (VariantType _ cases) (BoolValue _) k h = absurd (cc)
  flats_count (VariantType _ cases) (IntValue _) k h = absurd (cc)
  flats_count (VariantType _ cases) (CharValue _) k h = absurd (cc)
  flats_count (VariantType _ cases) (StringValue _) k h = absurd (cc)
  flats_count (VariantType _ cases) (ListValue _) k h = absurd (cc)
  flats_count (VariantType _ cases) (RecordValue _) k h = absurd (cc)
  flats_count (VariantType _ cases) (FlagsValue _) k h = absurd (cc)
  flats_count (VariantType _ cases) (HandleValue _) k h = absurd (cc)
  flats_count (FlagsType _) v k h = refl
  flats_count (OwnType _) v k h = refl
  flats_count (BorrowType _) v k h = refl

  fields_count : (ps : Parts) (vs : PlainValues) (k : ℕ) → are_of ps vs ≡ true → length (lower_fields ps vs k).flats ≡ length (flat_fields ps)
  fields_count End vs k h = refl
  fields_count (More _ ty rest) NoValues k h = absurd (cc)
  fields_count (More _ ty rest) (Values v ws) k h =
      let both = both_true (is_of ty v) (are_of rest ws) h in
      let one = flats_count ty v k both.0 in
      let others = fields_count rest ws (k + requests (lower_flat ty v k).steps) both.1 in
      omega (arith, length-append (lower_flat ty v k).flats (lower_fields rest ws (k + requests (lower_flat ty v k).steps)).flats, length-append (flat ty) (flat_fields rest))
  fields_count (Bare _ rest) vs k h = fields_count rest vs k h

  case_few : (ps : Parts) (n : ℕ) (payload : Payload) (k : ℕ) → is_of_case ps n payload ≡ true → length (lower_case ps n payload k).flats ≤ length (flat_cases ps)
  case_few End n payload k h = omega arith
  case_few (More _ ty rest) zero Without k h = absurd (cc)
  case_few (More _ ty rest) zero (With v) k h = let one = flats_count ty v k h in let le = join_left (flat ty) (flat_cases rest) in omega arith
  case_few (More _ ty rest) (suc n) payload k h = let later = case_few rest n payload k h in let le = join_right (flat ty) (flat_cases rest) in omega arith
  case_few (Bare _ rest) zero payload k h = omega arith
  case_few (Bare _ rest) (suc n) payload k h = case_few rest n payload k h
