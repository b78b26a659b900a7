-- Types whose own handles outside lists are of listed kinds.
use Rattle.std.proofs.Common.{◌≡◌, ℕ, ◌≤◌, nat_lt, Bool, true, false, ◌&&◌, Option, Some, None, refl, arith}
use Rattle.std.proofs.lemmas.Bool.Decides.{nat_tests}
use Rattle.wit_types.specs.Plain.{Plain, Parts, BoolType, SignedType, UnsignedType, CharType, StringType, ListType, RecordType, VariantType, FlagsType, OwnType, BorrowType, End as NoParts, More as Part, Bare}
use Rattle.reference_step.specs.Rules.{same_kind, owns, owns_in, owns_of}

abbrev mutual
  pub has_kinds : Plain → Bool
  has_kinds BoolType = true
  has_kinds (SignedType width) = true
  has_kinds (UnsignedType width) = true
  has_kinds CharType = true
  has_kinds StringType = true
  has_kinds (ListType item) = true
  has_kinds (RecordType _ fields) = have_kinds fields
  has_kinds (VariantType _ cases) = have_kinds cases
  has_kinds (FlagsType labels) = true
  has_kinds (OwnType kind) = nat_lt kind 14
  has_kinds (BorrowType kind) = true

  pub have_kinds : Parts → Bool
  have_kinds NoParts = true
  have_kinds (Part _ ty rest) = has_kinds ty && have_kinds rest
  have_kinds (Bare _ rest) = have_kinds rest

abbrev pub has_kinds_result : Option Plain → Bool
has_kinds_result None = true
has_kinds_result (Some ty) = has_kinds ty

first_true : (a b : Bool) → (a && b) ≡ true → a ≡ true
first_true true b e = refl
first_true false b e = e

second_true : (a b : Bool) → (a && b) ≡ true → b ≡ true
second_true true b e = e
second_true false b e = cc

module _ (kind : ℕ) (more : 14 ≤ kind) where
  other_kind : (own : ℕ) → nat_lt own 14 ≡ true → same_kind kind own ≡ 0
  other_kind own is = grind (arith, nat_tests, more)

  mutual
    pub no_kind : (ty : Plain) → has_kinds ty ≡ true → owns kind ty ≡ 0
    no_kind BoolType e = refl
    no_kind (SignedType width) e = refl
    no_kind (UnsignedType width) e = refl
    no_kind CharType e = refl
    no_kind StringType e = refl
    no_kind (ListType item) e = refl
    no_kind (RecordType form fields) e = no_kinds fields e
    no_kind (VariantType form cases) e = no_kinds cases e
    no_kind (FlagsType labels) e = refl
    no_kind (OwnType own) e = other_kind own e
    no_kind (BorrowType own) e = refl

    no_kinds : (parts : Parts) → have_kinds parts ≡ true → owns_in kind parts ≡ 0
    no_kinds NoParts e = refl
    no_kinds (Part name ty rest) e =
        let first = no_kind ty (first_true (has_kinds ty) (have_kinds rest) e) in
        let later = no_kinds rest (second_true (has_kinds ty) (have_kinds rest) e) in
        omega (arith, first, later)
    no_kinds (Bare name rest) e = no_kinds rest e

  pub no_kind_result : (ty : Option Plain) → has_kinds_result ty ≡ true → owns_of kind ty ≡ 0
  no_kind_result None e = refl
  no_kind_result (Some ty) e = no_kind ty e
