-- What has the same values: types that are alike, a type without its names, and a value with other numbers of handles.
use Rattle.std.proofs.Common.{◌≡◌, ℕ, zero, suc, Bool, true, false, ◌&&◌, List, [], ◌∷◌, map, length, Option, Some, None, refl, sym, ap, ap₂, ◌∙◌, arith}
use Rattle.std.proofs.Math.Path.{fun_ext}
use Rattle.std.proofs.lemmas.List.{length-map}
use Rattle.std.specs.Str.{bytes_eq}
use Rattle.wit_types.specs.Plain.{Name, Width, OneByte, TwoBytes, FourBytes, EightBytes, Plain, Parts, BoolType, SignedType, UnsignedType, CharType, StringType, ListType, RecordType, VariantType, FlagsType, OwnType, BorrowType, End as NoParts, More as Part, Bare}
use Rattle.wit_types.specs.PlainValue.{PlainValue, PlainValues, Payload, ListValue, RecordValue, VariantValue, HandleValue, End, More, Without, With}
use Rattle.wit_types.specs.HasType.{is_of, are_of, is_of_case, is_list, is_record, is_variant, is_flags, is_handle, is_with, all_pass, first_and_rest}
use Rattle.reference_step.specs.Atoms.{new_handle, new_each, new_list, new_record, new_variant, new_payload, renumbered, renumbered_of, renumbered_at, renumbered_result}
use Rattle.reference_step.specs.Rules.{same_width, same_labels, alike, alike_parts, alike_results}
use Rattle.host_port.specs.Hosts.{IsResult}

pub first_true : (a b : Bool) → (a && b) ≡ true → a ≡ true
first_true true b e = refl
first_true false b e = e

pub second_true : (a b : Bool) → (a && b) ≡ true → b ≡ true
second_true true b e = e
second_true false b e = cc

-- ---- types that are alike

width_is : (a b : Width) → same_width a b ≡ true → a ≡ b
width_is OneByte OneByte e = refl
width_is OneByte _ e = cc
width_is TwoBytes TwoBytes e = refl
width_is TwoBytes _ e = cc
width_is FourBytes FourBytes e = refl
width_is FourBytes _ e = cc
width_is EightBytes EightBytes e = refl
width_is EightBytes _ e = cc

labels_count : (a b : List Name) → same_labels a b ≡ true → length a ≡ length b
labels_count [] [] e = refl
labels_count [] (y ∷ ys) e = cc
labels_count (x ∷ xs) [] e = cc
labels_count (x ∷ xs) (y ∷ ys) e = let rest = labels_count xs ys (second_true (bytes_eq x y) (same_labels xs ys) e) in omega (arith, rest)

mutual
  pub alike_values : (a b : Plain) → alike a b ≡ true → (v : PlainValue) → is_of a v ≡ is_of b v
  alike_values BoolType BoolType e v = refl
  alike_values BoolType _ e v = cc
  alike_values (SignedType width) (SignedType other) e v = ap (λ w. is_of (SignedType w) v) (width_is width other e)
  alike_values (SignedType width) _ e v = cc
  alike_values (UnsignedType width) (UnsignedType other) e v = ap (λ w. is_of (UnsignedType w) v) (width_is width other e)
  alike_values (UnsignedType width) _ e v = cc
  alike_values CharType CharType e v = refl
  alike_values CharType _ e v = cc
  alike_values StringType StringType e v = refl
  alike_values StringType _ e v = cc
  alike_values (ListType item) (ListType other) e v = ap (λ test. is_list test v) (fun_ext (λ x. alike_values item other e x))
  alike_values (ListType item) _ e v = cc
  alike_values (RecordType form fields) (RecordType other others) e v =
      ap (λ test. is_record test v) (fun_ext (λ xs. alike_fields fields others (second_true _ (alike_parts fields others) e) xs))
  alike_values (RecordType form fields) _ e v = cc
  alike_values (VariantType form cases) (VariantType other others) e v =
      ap (λ test. is_variant test v) (fun_ext (λ n. fun_ext (λ x. alike_cases cases others (second_true _ (alike_parts cases others) e) n x)))
  alike_values (VariantType form cases) _ e v = cc
  alike_values (FlagsType labels) (FlagsType others) e v = ap (λ n. is_flags n v) (labels_count labels others e)
  alike_values (FlagsType labels) _ e v = cc
  alike_values (OwnType kind) (OwnType other) e v = refl
  alike_values (OwnType kind) _ e v = cc
  alike_values (BorrowType kind) (BorrowType other) e v = refl
  alike_values (BorrowType kind) _ e v = cc

  alike_fields : (a b : Parts) → alike_parts a b ≡ true → (xs : PlainValues) → are_of a xs ≡ are_of b xs
  alike_fields NoParts NoParts e xs = refl
  alike_fields NoParts _ e xs = cc
  alike_fields (Part name ty rest) (Part other other_ty others) e xs =
      let both = second_true (bytes_eq name other) (alike ty other_ty && alike_parts rest others) e in
      ap₂ (λ one more. first_and_rest one more xs)
      (fun_ext (λ x. alike_values ty other_ty (first_true (alike ty other_ty) (alike_parts rest others) both) x))
      (fun_ext (λ ys. alike_fields rest others (second_true (alike ty other_ty) (alike_parts rest others) both) ys))
  alike_fields (Part name ty rest) _ e xs = cc
  alike_fields (Bare name rest) (Bare other others) e xs = alike_fields rest others (second_true (bytes_eq name other) (alike_parts rest others) e) xs
  alike_fields (Bare name rest) _ e xs = cc

  alike_cases : (a b : Parts) → alike_parts a b ≡ true → (n : ℕ) (x : Payload) → is_of_case a n x ≡ is_of_case b n x
  alike_cases NoParts NoParts e n x = refl
  alike_cases NoParts _ e n x = cc
  alike_cases (Part name ty rest) (Part other other_ty others) e zero x =
      let both = second_true (bytes_eq name other) (alike ty other_ty && alike_parts rest others) e in
      ap (λ test. is_with test x) (fun_ext (λ v. alike_values ty other_ty (first_true (alike ty other_ty) (alike_parts rest others) both) v))
  alike_cases (Part name ty rest) (Part other other_ty others) e (suc n) x =
      let both = second_true (bytes_eq name other) (alike ty other_ty && alike_parts rest others) e in
      alike_cases rest others (second_true (alike ty other_ty) (alike_parts rest others) both) n x
  alike_cases (Part name ty rest) _ e n x = cc
  alike_cases (Bare name rest) (Bare other others) e zero x = refl
  alike_cases (Bare name rest) (Bare other others) e (suc n) x = alike_cases rest others (second_true (bytes_eq name other) (alike_parts rest others) e) n x
  alike_cases (Bare name rest) _ e n x = cc

-- a value of the one is one of the other
pub to_alike : (a b : Option Plain) (v : Option PlainValue) → alike_results a b ≡ true → IsResult a v → IsResult b v
to_alike None None v e is = is
to_alike None (Some ty) v e is = cc
to_alike (Some ty) None v e is = cc
to_alike (Some ty) (Some other) None e is = absurd is
to_alike (Some ty) (Some other) (Some v) e is = sym (alike_values ty other e v) ∙ is

pub from_alike : (a b : Option Plain) (v : Option PlainValue) → alike_results a b ≡ true → IsResult b v → IsResult a v
from_alike None None v e is = is
from_alike None (Some ty) v e is = cc
from_alike (Some ty) None v e is = cc
from_alike (Some ty) (Some other) None e is = absurd is
from_alike (Some ty) (Some other) (Some v) e is = alike_values ty other e v ∙ is

-- ---- a type without its names

abbrev mutual
  pub nameless : Plain → Plain
  nameless BoolType = BoolType
  nameless (SignedType width) = SignedType width
  nameless (UnsignedType width) = UnsignedType width
  nameless CharType = CharType
  nameless StringType = StringType
  nameless (ListType item) = ListType (nameless item)
  nameless (RecordType form fields) = RecordType form (nameless_parts fields)
  nameless (VariantType form cases) = VariantType form (nameless_parts cases)
  nameless (FlagsType labels) = FlagsType (map (λ label. []) labels)
  nameless (OwnType kind) = OwnType kind
  nameless (BorrowType kind) = BorrowType kind

  pub nameless_parts : Parts → Parts
  nameless_parts NoParts = NoParts
  nameless_parts (Part name ty rest) = Part [] (nameless ty) (nameless_parts rest)
  nameless_parts (Bare name rest) = Bare [] (nameless_parts rest)

abbrev pub nameless_result : Option Plain → Option Plain
nameless_result None = None
nameless_result (Some ty) = Some (nameless ty)

mutual
  nameless_values : (ty : Plain) (v : PlainValue) → is_of (nameless ty) v ≡ is_of ty v
  nameless_values BoolType v = refl
  nameless_values (SignedType width) v = refl
  nameless_values (UnsignedType width) v = refl
  nameless_values CharType v = refl
  nameless_values StringType v = refl
  nameless_values (ListType item) v = ap (λ test. is_list test v) (fun_ext (λ x. nameless_values item x))
  nameless_values (RecordType form fields) v = ap (λ test. is_record test v) (fun_ext (λ xs. nameless_fields fields xs))
  nameless_values (VariantType form cases) v = ap (λ test. is_variant test v) (fun_ext (λ n. fun_ext (λ x. nameless_cases cases n x)))
  nameless_values (FlagsType labels) v = ap (λ n. is_flags n v) (length-map labels (λ label. []))
  nameless_values (OwnType kind) v = refl
  nameless_values (BorrowType kind) v = refl

  nameless_fields : (fields : Parts) (xs : PlainValues) → are_of (nameless_parts fields) xs ≡ are_of fields xs
  nameless_fields NoParts xs = refl
  nameless_fields (Part name ty rest) xs = ap₂ (λ one more. first_and_rest one more xs) (fun_ext (λ x. nameless_values ty x)) (fun_ext (λ ys. nameless_fields rest ys))
  nameless_fields (Bare name rest) xs = nameless_fields rest xs

  nameless_cases : (cases : Parts) (n : ℕ) (x : Payload) → is_of_case (nameless_parts cases) n x ≡ is_of_case cases n x
  nameless_cases NoParts n x = refl
  nameless_cases (Part name ty rest) zero x = ap (λ test. is_with test x) (fun_ext (λ v. nameless_values ty v))
  nameless_cases (Part name ty rest) (suc n) x = nameless_cases rest n x
  nameless_cases (Bare name rest) zero x = refl
  nameless_cases (Bare name rest) (suc n) x = nameless_cases rest n x

pub from_nameless : (ty : Option Plain) (v : Option PlainValue) → IsResult (nameless_result ty) v → IsResult ty v
from_nameless None v is = is
from_nameless (Some ty) None is = absurd is
from_nameless (Some ty) (Some v) is = sym (nameless_values ty v) ∙ is

pub to_nameless : (ty : Option Plain) (v : Option PlainValue) → IsResult ty v → IsResult (nameless_result ty) v
to_nameless None v is = is
to_nameless (Some ty) None is = absurd is
to_nameless (Some ty) (Some v) is = nameless_values ty v ∙ is

-- ---- other numbers of handles

handle_same : (v : PlainValue) (ids : List ℕ) → is_handle (new_handle v ids).0 ≡ is_handle v
handle_same (HandleValue id) [] = refl
handle_same (HandleValue id) (new ∷ ids) = refl
handle_same _ ids = refl

abbrev Changes : Type 0
Changes = PlainValue → List ℕ → PlainValue × List ℕ

each_same : (test : PlainValue → Bool) (go : Changes) → ((x : PlainValue) (ids : List ℕ) → test (go x ids).0 ≡ test x) → (vs : PlainValues) (ids : List ℕ) → all_pass test (new_each go vs ids).0 ≡ all_pass test vs
each_same test go same End ids = refl
each_same test go same (More v vs) ids = ap₂ (λ a b. a && b) (same v ids) (each_same test go same vs (go v ids).1)

list_same : (test : PlainValue → Bool) (go : Changes) → ((x : PlainValue) (ids : List ℕ) → test (go x ids).0 ≡ test x) → (v : PlainValue) (ids : List ℕ) → is_list test (new_list go v ids).0 ≡ is_list test v
list_same test go same (ListValue vs) ids = each_same test go same vs ids
list_same test go same _ ids = refl

record_same : (test : PlainValues → Bool) (go : PlainValues → List ℕ → PlainValues × List ℕ) → ((xs : PlainValues) (ids : List ℕ) → test (go xs ids).0 ≡ test xs) → (v : PlainValue) (ids : List ℕ) → is_record test (new_record go v ids).0 ≡ is_record test v
record_same test go same (RecordValue vs) ids = same vs ids
record_same test go same _ ids = refl

variant_same : (test : ℕ → Payload → Bool) (go : ℕ → Payload → List ℕ → Payload × List ℕ) → ((n : ℕ) (x : Payload) (ids : List ℕ) → test n (go n x ids).0 ≡ test n x) → (v : PlainValue) (ids : List ℕ) → is_variant test (new_variant go v ids).0 ≡ is_variant test v
variant_same test go same (VariantValue n x) ids = same n x ids
variant_same test go same _ ids = refl

payload_same : (test : PlainValue → Bool) (go : Changes) → ((x : PlainValue) (ids : List ℕ) → test (go x ids).0 ≡ test x) → (x : Payload) (ids : List ℕ) → is_with test (new_payload go x ids).0 ≡ is_with test x
payload_same test go same Without ids = refl
payload_same test go same (With v) ids = same v ids

mutual
  renumbered_same : (ty : Plain) (v : PlainValue) (ids : List ℕ) → is_of ty (renumbered ty v ids).0 ≡ is_of ty v
  renumbered_same BoolType v ids = refl
  renumbered_same (SignedType width) v ids = refl
  renumbered_same (UnsignedType width) v ids = refl
  renumbered_same CharType v ids = refl
  renumbered_same StringType v ids = refl
  renumbered_same (ListType item) v ids = list_same (λ x. is_of item x) (λ x is. renumbered item x is) (λ x is. renumbered_same item x is) v ids
  renumbered_same (RecordType form fields) v ids = record_same (λ xs. are_of fields xs) (λ xs is. renumbered_of fields xs is) (λ xs is. renumbered_fields fields xs is) v ids
  renumbered_same (VariantType form cases) v ids = variant_same (λ n x. is_of_case cases n x) (λ n x is. renumbered_at cases n x is) (λ n x is. renumbered_cases cases n x is) v ids
  renumbered_same (FlagsType labels) v ids = refl
  renumbered_same (OwnType kind) v ids = handle_same v ids
  renumbered_same (BorrowType kind) v ids = handle_same v ids

  renumbered_fields : (fields : Parts) (xs : PlainValues) (ids : List ℕ) → are_of fields (renumbered_of fields xs ids).0 ≡ are_of fields xs
  renumbered_fields NoParts xs ids = refl
  renumbered_fields (Part name ty rest) End ids = refl
  renumbered_fields (Part name ty rest) (More v vs) ids = ap₂ (λ a b. a && b) (renumbered_same ty v ids) (renumbered_fields rest vs (renumbered ty v ids).1)
  renumbered_fields (Bare name rest) xs ids = renumbered_fields rest xs ids

  renumbered_cases : (cases : Parts) (n : ℕ) (x : Payload) (ids : List ℕ) → is_of_case cases n (renumbered_at cases n x ids).0 ≡ is_of_case cases n x
  renumbered_cases NoParts n x ids = refl
  renumbered_cases (Part name ty rest) zero x ids = payload_same (λ v. is_of ty v) (λ v is. renumbered ty v is) (λ v is. renumbered_same ty v is) x ids
  renumbered_cases (Part name ty rest) (suc n) x ids = renumbered_cases rest n x ids
  renumbered_cases (Bare name rest) zero x ids = refl
  renumbered_cases (Bare name rest) (suc n) x ids = renumbered_cases rest n x ids

pub renumbered_typed : (ty : Option Plain) (v : Option PlainValue) (ids : List ℕ) → IsResult ty v → IsResult ty (renumbered_result ty v ids)
renumbered_typed None v ids is = is
renumbered_typed (Some ty) None ids is = absurd is
renumbered_typed (Some ty) (Some v) ids is = renumbered_same ty v ids ∙ is
