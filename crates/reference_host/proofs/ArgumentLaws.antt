-- Lists of arguments that weigh no more than a limit have no more items.
use Rattle.std.proofs.Common.{◌≡◌, ℕ, ◌<◌, ◌≤◌, ◌+◌, ◌*◌, ◌^◌, nat_lt, Bool, true, ◌&&◌, List, [], ◌∷◌, ◌++◌, length, refl, ltb-true, le-mul_of_pos_right, arith}
use Rattle.wit_types.specs.Plain.{Plain, Parts, BoolType, SignedType, UnsignedType, CharType, StringType, ListType, RecordType, VariantType, FlagsType, OwnType, BorrowType, End as NoParts, More as Part, Bare}
use Rattle.wit_types.specs.PlainValue.{PlainValue, PlainValues, ListValue, End, More}
use Rattle.wit_types.specs.Layout.{size, align_to}
use Rattle.wit_types.specs.HasType.{is_of, are_of}
use Rattle.reference_step.specs.Atoms.{Atom, atoms, atoms_of, weight, count}
use Rattle.reference_step.specs.Values.{nth, items, list_in}
use Rattle.reference_host.proofs.TypeLaws.{first_true, second_true}
use Rattle.reference_host.proofs.RowForms.{AreShort}

-- ---- parameters whose first two lists have items of some bytes

abbrev is_sized : Plain → Bool
is_sized (ListType item) = nat_lt 0 (size item)
is_sized _ = true

abbrev first_sized : Parts → Bool
first_sized NoParts = true
first_sized (Part name ty rest) = is_sized ty
first_sized (Bare name rest) = first_sized rest

abbrev pub are_sized : Parts → Bool
are_sized NoParts = true
are_sized (Part name ty rest) = is_sized ty && first_sized rest
are_sized (Bare name rest) = are_sized rest

-- ---- their weight

weight_append : (a b : List Atom) → weight (a ++ b) ≡ weight a + weight b
weight_append [] b = omega arith
weight_append (x ∷ a) b = omega (arith, weight_append a b)

count_items : (vs : PlainValues) → length (items vs) ≡ count vs
count_items End = refl
count_items (More v vs) = omega (arith, count_items vs)

aligned : (n : ℕ) → n ≤ align_to n 8
aligned n = omega arith

list_weight : (item : Plain) (vs : PlainValues) → nat_lt 0 (size item) ≡ true → length (items vs) ≤ weight (atoms (ListType item) (ListValue vs))
list_weight item vs sized =
    let many : count vs ≤ count vs * size item = le-mul_of_pos_right (count vs) (ltb-true 0 (size item) sized) in
    omega (arith, count_items vs, many, aligned (count vs * size item))

value_weight : (ty : Plain) (v : PlainValue) → is_sized ty ≡ true → is_of ty v ≡ true → length (list_in v) ≤ weight (atoms ty v)
value_weight (ListType item) (ListValue vs) sized is = list_weight item vs sized
value_weight BoolType (ListValue vs) sized is = cc
value_weight (SignedType width) (ListValue vs) sized is = cc
value_weight (UnsignedType width) (ListValue vs) sized is = cc
value_weight CharType (ListValue vs) sized is = cc
value_weight StringType (ListValue vs) sized is = cc
value_weight (RecordType form fields) (ListValue vs) sized is = cc
value_weight (VariantType form cases) (ListValue vs) sized is = cc
value_weight (FlagsType labels) (ListValue vs) sized is = cc
value_weight (OwnType kind) (ListValue vs) sized is = cc
value_weight (BorrowType kind) (ListValue vs) sized is = cc
value_weight ty _ sized is = omega arith

first_weight : (params : Parts) (args : PlainValues) → first_sized params ≡ true → are_of params args ≡ true → length (list_in (nth 0 args)) ≤ weight (atoms_of params args)
first_weight NoParts End sized is = omega arith
first_weight NoParts (More v vs) sized is = cc
first_weight (Part name ty rest) End sized is = cc
first_weight (Part name ty rest) (More v vs) sized is =
    let here = value_weight ty v sized (first_true (is_of ty v) (are_of rest vs) is) in
    omega (arith, here, weight_append (atoms ty v) (atoms_of rest vs))
first_weight (Bare name rest) args sized is = first_weight rest args sized is

both_weigh : (params : Parts) (args : PlainValues) → are_sized params ≡ true → are_of params args ≡ true → (length (list_in (nth 0 args)) ≤ weight (atoms_of params args)) × (length (list_in (nth 1 args)) ≤ weight (atoms_of params args))
both_weigh NoParts End sized is = (omega arith, omega arith)
both_weigh NoParts (More v vs) sized is = cc
both_weigh (Part name ty rest) End sized is = cc
both_weigh (Part name ty rest) (More v vs) sized is =
    let here = value_weight ty v (first_true (is_sized ty) (first_sized rest) sized) (first_true (is_of ty v) (are_of rest vs) is) in
    let later = first_weight rest vs (second_true (is_sized ty) (first_sized rest) sized) (second_true (is_of ty v) (are_of rest vs) is) in
    let all = weight_append (atoms ty v) (atoms_of rest vs) in
    (omega (arith, here, all), omega (arith, later, all))
both_weigh (Bare name rest) args sized is = both_weigh rest args sized is

pub light_short : (params : Parts) (args : PlainValues) (limit : ℕ) → are_sized params ≡ true → are_of params args ≡ true → weight (atoms_of params args) ≤ limit → limit < 2 ^ 32 → AreShort args
light_short params args limit sized is light few =
    let both = both_weigh params args sized is in
    record { first = omega (arith, both.0, light, few); second = omega (arith, both.1, light, few) }
