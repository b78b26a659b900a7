-- The flat values of a plan are the definition's core values, since flat types are integers.
use Rattle.std.proofs.Common.{◌≡◌, ◌^◌, List, [], ◌∷◌, ◌++◌, map, refl, ap}
use Rattle.std.specs.Prelude.{◌%◌}
use Rattle.virt_base.specs.declared.core_type.CoreType.{CoreType}
use Rattle.virt_base.specs.declared.core_type.CoreType.TheVariants.{I32, I64, Funcref, Externref}
use Rattle.core_store.specs.declared.value.CoreValue.{CoreValue}
use Rattle.core_store.specs.declared.value.CoreValue.TheVariants as values
use Rattle.core_store.specs.Words.{values_in}
use Rattle.wit_types.specs.Plain.{Width, OneByte, TwoBytes, FourBytes, EightBytes, Plain, Parts, BoolType, SignedType, UnsignedType, CharType, StringType, ListType, RecordType, VariantType, FlagsType, OwnType, BorrowType, End, More, Bare}
use Rattle.wit_types.specs.Layout.{flat_integer, join_one, join, flat, flat_fields, flat_cases}
use Rattle.abi_layout.specs.Storing.{FlatItem}
use Rattle.abi_store.specs.Plan.{number_in, core_values}

abbrev pub IsIntegerType : CoreType → Type 0
IsIntegerType I32 = Unit {0}
IsIntegerType I64 = Unit {0}
IsIntegerType Funcref = ⊥
IsIntegerType Externref = ⊥

abbrev pub AreIntegerTypes : List CoreType → Type 0
AreIntegerTypes [] = Unit {0}
AreIntegerTypes (t ∷ ts) = IsIntegerType t × AreIntegerTypes ts

pub values_same : (ts : List CoreType) (xs : List FlatItem) → AreIntegerTypes ts → core_values ts xs ≡ values_in 0 ts (map number_in xs)
values_same [] xs h = refl
values_same (t ∷ ts) [] h = refl
values_same (I32 ∷ ts) (x ∷ xs) h = ap (λ (vs : List CoreValue). values.I32 (number_in x % 2 ^ 32) ∷ vs) (values_same ts xs h.1)
values_same (I64 ∷ ts) (x ∷ xs) h = ap (λ (vs : List CoreValue). values.I64 (number_in x) ∷ vs) (values_same ts xs h.1)
values_same (Funcref ∷ ts) (x ∷ xs) h = absurd h.0
values_same (Externref ∷ ts) (x ∷ xs) h = absurd h.0

both_integers : (xs ys : List CoreType) → AreIntegerTypes xs → AreIntegerTypes ys → AreIntegerTypes (xs ++ ys)
both_integers [] ys h k = k
both_integers (x ∷ xs) ys h k = (h.0, both_integers xs ys h.1 k)

one_joined : (x y : CoreType) → IsIntegerType (join_one x y)
one_joined I32 I32 = tt
one_joined I32 I64 = tt
one_joined I32 Funcref = tt
one_joined I32 Externref = tt
one_joined I64 I32 = tt
one_joined I64 I64 = tt
one_joined I64 Funcref = tt
one_joined I64 Externref = tt
one_joined Funcref I32 = tt
one_joined Funcref I64 = tt
one_joined Funcref Funcref = tt
one_joined Funcref Externref = tt
one_joined Externref I32 = tt
one_joined Externref I64 = tt
one_joined Externref Funcref = tt
one_joined Externref Externref = tt

all_joined : (xs ys : List CoreType) → AreIntegerTypes xs → AreIntegerTypes ys → AreIntegerTypes (join xs ys)
all_joined [] ys h k = k
all_joined (x ∷ xs) [] h k = h
all_joined (x ∷ xs) (y ∷ ys) h k = (one_joined x y, all_joined xs ys h.1 k.1)

width_integer : (w : Width) → AreIntegerTypes (flat_integer w)
width_integer OneByte = (tt, tt)
width_integer TwoBytes = (tt, tt)
width_integer FourBytes = (tt, tt)
width_integer EightBytes = (tt, tt)

mutual
  pub flat_integers : (ty : Plain) → AreIntegerTypes (flat ty)
  flat_integers BoolType = (tt, tt)
  flat_integers (SignedType w) = width_integer w
  flat_integers (UnsignedType w) = width_integer w
  flat_integers CharType = (tt, tt)
  flat_integers StringType = (tt, (tt, tt))
  flat_integers (ListType item) = (tt, (tt, tt))
  flat_integers (RecordType form fields) = fields_integers fields
  flat_integers (VariantType form cases) = (tt, cases_integers cases)
  flat_integers (FlagsType labels) = (tt, tt)
  flat_integers (OwnType r) = (tt, tt)
  flat_integers (BorrowType r) = (tt, tt)

  pub fields_integers : (ps : Parts) → AreIntegerTypes (flat_fields ps)
  fields_integers End = tt
  fields_integers (More name ty rest) = both_integers (flat ty) (flat_fields rest) (flat_integers ty) (fields_integers rest)
  fields_integers (Bare name rest) = fields_integers rest

  cases_integers : (ps : Parts) → AreIntegerTypes (flat_cases ps)
  cases_integers End = tt
  cases_integers (More name ty rest) = all_joined (flat ty) (flat_cases rest) (flat_integers ty) (cases_integers rest)
  cases_integers (Bare name rest) = cases_integers rest
