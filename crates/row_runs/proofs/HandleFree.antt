-- A value of a fixed type without handles has no atoms and no handles, and no number in it changes.
use Rattle.std.proofs.Common.{◌≡◌, ℕ, zero, suc, ◌&&◌, Bool, true, false, List, [], ◌++◌, drop, length, refl, ap, ap₂}
use Rattle.wit_types.specs.Plain.{Plain, Parts, BoolType, SignedType, UnsignedType, CharType, StringType, ListType, RecordType, VariantType, FlagsType, OwnType, BorrowType, End as NoParts, More as Part, Bare}
use Rattle.wit_types.specs.PlainValue.{PlainValue, PlainValues, Payload, BoolValue, IntValue, CharValue, StringValue, ListValue, RecordValue, VariantValue, FlagsValue, HandleValue, End, More, Without, With}
use Rattle.abi_layout.specs.Handles as abi
use Rattle.reference_step.specs.Atoms.{atoms, atoms_of, atoms_at}
use Rattle.row_runs.specs.Fixed.{is_handle_free, are_handle_free}

both : (a b : Bool) → (a && b) ≡ true → (a ≡ true) × (b ≡ true)
both true b e = (refl, e)
both false b e = cc

mutual
  pub no_atoms : (ty : Plain) (v : PlainValue) → is_handle_free ty ≡ true → atoms ty v ≡ []
  no_atoms BoolType v e = refl
  no_atoms (SignedType w) v e = refl
  no_atoms (UnsignedType w) v e = refl
  no_atoms CharType v e = refl
  no_atoms StringType v e = cc
  no_atoms (ListType item) v e = cc
  no_atoms (RecordType form fields) (RecordValue vs) e = no_field_atoms fields vs e
  no_atoms (RecordType form fields) (BoolValue b) e = refl
  no_atoms (RecordType form fields) (IntValue b) e = refl
  no_atoms (RecordType form fields) (CharValue b) e = refl
  no_atoms (RecordType form fields) (StringValue b) e = refl
  no_atoms (RecordType form fields) (ListValue b) e = refl
  no_atoms (RecordType form fields) (VariantValue n b) e = refl
  no_atoms (RecordType form fields) (FlagsValue b) e = refl
  no_atoms (RecordType form fields) (HandleValue b) e = refl
  no_atoms (VariantType form cases) (VariantValue n p) e = no_case_atoms cases n p e
  no_atoms (VariantType form cases) (BoolValue b) e = refl
  no_atoms (VariantType form cases) (IntValue b) e = refl
  no_atoms (VariantType form cases) (CharValue b) e = refl
  no_atoms (VariantType form cases) (StringValue b) e = refl
  no_atoms (VariantType form cases) (ListValue b) e = refl
  no_atoms (VariantType form cases) (RecordValue b) e = refl
  no_atoms (VariantType form cases) (FlagsValue b) e = refl
  no_atoms (VariantType form cases) (HandleValue b) e = refl
  no_atoms (FlagsType labels) v e = refl
  no_atoms (OwnType k) v e = cc
  no_atoms (BorrowType k) v e = cc

  no_field_atoms : (ps : Parts) (vs : PlainValues) → are_handle_free ps ≡ true → atoms_of ps vs ≡ []
  no_field_atoms NoParts vs e = refl
  no_field_atoms (Part name ty rest) End e = refl
  no_field_atoms (Part name ty rest) (More v vs) e = let h = both (is_handle_free ty) (are_handle_free rest) e in ap₂ (λ xs ys. xs ++ ys) (no_atoms ty v h.0) (no_field_atoms rest vs h.1)
  no_field_atoms (Bare name rest) vs e = no_field_atoms rest vs e

  no_case_atoms : (cs : Parts) (n : ℕ) (p : Payload) → are_handle_free cs ≡ true → atoms_at cs n p ≡ []
  no_case_atoms NoParts n p e = refl
  no_case_atoms (Part name ty rest) zero Without e = refl
  no_case_atoms (Part name ty rest) zero (With v) e = no_atoms ty v (both (is_handle_free ty) (are_handle_free rest) e).0
  no_case_atoms (Part name ty rest) (suc n) p e = no_case_atoms rest n p (both (is_handle_free ty) (are_handle_free rest) e).1
  no_case_atoms (Bare name rest) zero p e = refl
  no_case_atoms (Bare name rest) (suc n) p e = no_case_atoms rest n p e

mutual
  pub no_handles : (ty : Plain) (v : PlainValue) → is_handle_free ty ≡ true → abi.handles ty v ≡ []
  no_handles BoolType v e = refl
  no_handles (SignedType w) v e = refl
  no_handles (UnsignedType w) v e = refl
  no_handles CharType v e = refl
  no_handles StringType v e = cc
  no_handles (ListType item) v e = cc
  no_handles (RecordType form fields) (RecordValue vs) e = no_field_handles fields vs e
  no_handles (RecordType form fields) (BoolValue b) e = refl
  no_handles (RecordType form fields) (IntValue b) e = refl
  no_handles (RecordType form fields) (CharValue b) e = refl
  no_handles (RecordType form fields) (StringValue b) e = refl
  no_handles (RecordType form fields) (ListValue b) e = refl
  no_handles (RecordType form fields) (VariantValue n b) e = refl
  no_handles (RecordType form fields) (FlagsValue b) e = refl
  no_handles (RecordType form fields) (HandleValue b) e = refl
  no_handles (VariantType form cases) (VariantValue n p) e = no_case_handles cases n p e
  no_handles (VariantType form cases) (BoolValue b) e = refl
  no_handles (VariantType form cases) (IntValue b) e = refl
  no_handles (VariantType form cases) (CharValue b) e = refl
  no_handles (VariantType form cases) (StringValue b) e = refl
  no_handles (VariantType form cases) (ListValue b) e = refl
  no_handles (VariantType form cases) (RecordValue b) e = refl
  no_handles (VariantType form cases) (FlagsValue b) e = refl
  no_handles (VariantType form cases) (HandleValue b) e = refl
  no_handles (FlagsType labels) v e = refl
  no_handles (OwnType k) v e = cc
  no_handles (BorrowType k) v e = cc

  no_field_handles : (ps : Parts) (vs : PlainValues) → are_handle_free ps ≡ true → abi.field_handles ps vs ≡ []
  no_field_handles NoParts vs e = refl
  no_field_handles (Part name ty rest) End e = refl
  no_field_handles (Part name ty rest) (More v vs) e = let h = both (is_handle_free ty) (are_handle_free rest) e in ap₂ (λ xs ys. xs ++ ys) (no_handles ty v h.0) (no_field_handles rest vs h.1)
  no_field_handles (Bare name rest) vs e = no_field_handles rest vs e

  no_case_handles : (cs : Parts) (n : ℕ) (p : Payload) → are_handle_free cs ≡ true → abi.case_handles cs n p ≡ []
  no_case_handles NoParts n p e = refl
  no_case_handles (Part name ty rest) zero Without e = refl
  no_case_handles (Part name ty rest) zero (With v) e = no_handles ty v (both (is_handle_free ty) (are_handle_free rest) e).0
  no_case_handles (Part name ty rest) (suc n) p e = no_case_handles rest n p (both (is_handle_free ty) (are_handle_free rest) e).1
  no_case_handles (Bare name rest) zero p e = refl
  no_case_handles (Bare name rest) (suc n) p e = no_case_handles rest n p e

mutual
  pub no_change : (ty : Plain) (v : PlainValue) (ns : List ℕ) → is_handle_free ty ≡ true → abi.renumbered ty v ns ≡ v
  no_change BoolType v ns e = refl
  no_change (SignedType w) v ns e = refl
  no_change (UnsignedType w) v ns e = refl
  no_change CharType v ns e = refl
  no_change StringType v ns e = refl
  no_change (ListType item) v ns e = cc
  no_change (RecordType form fields) (RecordValue vs) ns e = ap RecordValue (no_field_change fields vs ns e)
  no_change (RecordType form fields) (BoolValue b) ns e = refl
  no_change (RecordType form fields) (IntValue b) ns e = refl
  no_change (RecordType form fields) (CharValue b) ns e = refl
  no_change (RecordType form fields) (StringValue b) ns e = refl
  no_change (RecordType form fields) (ListValue b) ns e = refl
  no_change (RecordType form fields) (VariantValue n b) ns e = refl
  no_change (RecordType form fields) (FlagsValue b) ns e = refl
  no_change (RecordType form fields) (HandleValue b) ns e = refl
  no_change (VariantType form cases) (VariantValue n p) ns e = ap (VariantValue n) (no_case_change cases n p ns e)
  no_change (VariantType form cases) (BoolValue b) ns e = refl
  no_change (VariantType form cases) (IntValue b) ns e = refl
  no_change (VariantType form cases) (CharValue b) ns e = refl
  no_change (VariantType form cases) (StringValue b) ns e = refl
  no_change (VariantType form cases) (ListValue b) ns e = refl
  no_change (VariantType form cases) (RecordValue b) ns e = refl
  no_change (VariantType form cases) (FlagsValue b) ns e = refl
  no_change (VariantType form cases) (HandleValue b) ns e = refl
  no_change (FlagsType labels) v ns e = refl
  no_change (OwnType k) v ns e = cc
  no_change (BorrowType k) v ns e = cc

  no_field_change : (ps : Parts) (vs : PlainValues) (ns : List ℕ) → are_handle_free ps ≡ true → abi.renumbered_fields ps vs ns ≡ vs
  no_field_change NoParts vs ns e = refl
  no_field_change (Part name ty rest) End ns e = refl
  no_field_change (Part name ty rest) (More v vs) ns e = let h = both (is_handle_free ty) (are_handle_free rest) e in ap₂ (λ x xs. More x xs) (no_change ty v ns h.0) (no_field_change rest vs (drop (length (abi.handles ty v)) ns) h.1)
  no_field_change (Bare name rest) vs ns e = no_field_change rest vs ns e

  no_case_change : (cs : Parts) (n : ℕ) (p : Payload) (ns : List ℕ) → are_handle_free cs ≡ true → abi.renumbered_case cs n p ns ≡ p
  no_case_change NoParts n p ns e = refl
  no_case_change (Part name ty rest) zero Without ns e = refl
  no_case_change (Part name ty rest) zero (With v) ns e = ap With (no_change ty v ns (both (is_handle_free ty) (are_handle_free rest) e).0)
  no_case_change (Part name ty rest) (suc n) p ns e = no_case_change rest n p ns (both (is_handle_free ty) (are_handle_free rest) e).1
  no_case_change (Bare name rest) zero p ns e = refl
  no_case_change (Bare name rest) (suc n) p ns e = no_case_change rest n p ns e
