-- Types of functions by which the same passes: the same values are of their parameters, and handles are in all of them or in none.
use Rattle.std.proofs.Common.{◌≡◌, ◌∙◌, refl, sym, ap, ℕ, ◌||◌, Bool, true, false, Option, Some, None}
use Rattle.wit_types.specs.Plain.{Plain, Parts, PlainFunc, BoolType, SignedType, UnsignedType, CharType, StringType, ListType, RecordType, VariantType, FlagsType, OwnType, BorrowType, End, More, Bare}
use Rattle.wit_types.specs.PlainValue.{PlainValue, PlainValues, Payload}
use Rattle.wit_types.specs.HasType.{is_list, is_record, is_variant, is_with, is_without, case_or_later, first_and_rest, is_of, are_of, is_of_case}
use Rattle.value_handles.specs.Whether.{has_handles, parts_have_handles}
use Rattle.value_handles.proofs.Laws.{no_handles}
use Rattle.comp_facts.specs.Handles.{has_handle, has_handle_in, answer_has_handle, func_has_handle}
use Rattle.comp_types.specs.Substitution.{value_with, parts_with, answer_with}
use Rattle.comp_worlds.specs.Passing.{answer_parts, params_tuple, answer_tuple}
use Rattle.comp_link.specs.Exports.{no_number, nameless, passing}
use Rattle.call_moments.specs.Waiting.{HoldsNone}

-- ---- the same values are of a type, whatever the numbers of its resources are

mutual
  of_with : (ty : Plain) (v : PlainValue) → is_of (value_with no_number ty) v ≡ is_of ty v
  of_with (ListType item) v = ap (λ (t : PlainValue → Bool). is_list t v) (λ i x. of_with item x i)
  of_with (RecordType form fields) v = ap (λ (t : PlainValues → Bool). is_record t v) (λ i xs. fields_with fields xs i)
  of_with (VariantType form cases) v = ap (λ (t : ℕ → Payload → Bool). is_variant t v) (λ i n x. case_with cases n x i)
  of_with (OwnType r) v = refl
  of_with (BorrowType r) v = refl
  of_with ty v = refl

  fields_with : (ps : Parts) (xs : PlainValues) → are_of (parts_with no_number ps) xs ≡ are_of ps xs
  fields_with End xs = refl
  fields_with (More name ty rest) xs = λ i. first_and_rest (λ x. of_with ty x i) (λ ys. fields_with rest ys i) xs
  fields_with (Bare name rest) xs = fields_with rest xs

  case_with : (ps : Parts) (n : ℕ) (x : Payload) → is_of_case (parts_with no_number ps) n x ≡ is_of_case ps n x
  case_with End n x = refl
  case_with (More name ty rest) n x = λ i. case_or_later (λ y. is_with (λ v. of_with ty v i) y) (λ m y. case_with rest m y i) n x
  case_with (Bare name rest) n x = λ i. case_or_later is_without (λ m y. case_with rest m y i) n x

of_nameless : (ps : Parts) (xs : PlainValues) → are_of (nameless ps) xs ≡ are_of ps xs
of_nameless End xs = refl
of_nameless (More name ty rest) xs = λ i. first_and_rest (λ x. of_with ty x i) (λ ys. of_nameless rest ys i) xs
of_nameless (Bare name rest) xs = of_nameless rest xs

pub arguments_pass : (a b : PlainFunc) (xs : PlainValues) → passing a ≡ passing b → are_of b.params xs ≡ true → are_of a.params xs ≡ true
arguments_pass a b xs same h = sym (of_nameless a.params xs) ∙ ap (λ (f : PlainFunc). are_of f.params xs) same ∙ of_nameless b.params xs ∙ h

-- ---- handles are in it, or not

mutual
  handle_with : (ty : Plain) → has_handle (value_with no_number ty) ≡ has_handle ty
  handle_with (ListType item) = handle_with item
  handle_with (RecordType form fields) = handle_in_with fields
  handle_with (VariantType form cases) = handle_in_with cases
  handle_with (OwnType r) = refl
  handle_with (BorrowType r) = refl
  handle_with ty = refl

  handle_in_with : (ps : Parts) → has_handle_in (parts_with no_number ps) ≡ has_handle_in ps
  handle_in_with End = refl
  handle_in_with (More name ty rest) = λ i. handle_with ty i || handle_in_with rest i
  handle_in_with (Bare name rest) = handle_in_with rest

handle_nameless : (ps : Parts) → has_handle_in (nameless ps) ≡ has_handle_in ps
handle_nameless End = refl
handle_nameless (More name ty rest) = λ i. handle_with ty i || handle_nameless rest i
handle_nameless (Bare name rest) = handle_nameless rest

handle_answer : (o : Option Plain) → answer_has_handle (answer_with no_number o) ≡ answer_has_handle o
handle_answer None = refl
handle_answer (Some ty) = handle_with ty

handles_pass : (a b : PlainFunc) → passing a ≡ passing b → func_has_handle a ≡ func_has_handle b
handles_pass a b same =
    (λ i. sym (handle_nameless a.params) i || sym (handle_answer a.answer) i)
    ∙ ap (λ (f : PlainFunc). has_handle_in f.params || answer_has_handle f.answer) same
    ∙ (λ i. handle_nameless b.params i || handle_answer b.answer i)

-- ---- a type without a handle: its values hold none

-- the same test
mutual
  whether : (ty : Plain) → has_handles ty ≡ has_handle ty
  whether (ListType item) = whether item
  whether (RecordType form fields) = whether_in fields
  whether (VariantType form cases) = whether_in cases
  whether (OwnType r) = refl
  whether (BorrowType r) = refl
  whether BoolType = refl
  whether (SignedType w) = refl
  whether (UnsignedType w) = refl
  whether CharType = refl
  whether StringType = refl
  whether (FlagsType labels) = refl

  whether_in : (ps : Parts) → parts_have_handles ps ≡ has_handle_in ps
  whether_in End = refl
  whether_in (More name ty rest) = λ i. whether ty i || whether_in rest i
  whether_in (Bare name rest) = whether_in rest

neither : (a b : Bool) → (a || b) ≡ false → (a ≡ false) × (b ≡ false)
neither true b h = absurd cc
neither false b h = (refl, h)

or_none : (a : Bool) → (a || false) ≡ a
or_none true = refl
or_none false = refl

answer_handles : (o : Option Plain) → has_handle_in (answer_parts o) ≡ answer_has_handle o
answer_handles None = refl
answer_handles (Some ty) = or_none (has_handle ty)

pub holds_none : (a b : PlainFunc) → passing a ≡ passing b → func_has_handle b ≡ false → HoldsNone (params_tuple a) × HoldsNone (answer_tuple a)
holds_none a b same none =
    let both = neither (has_handle_in a.params) (answer_has_handle a.answer) (handles_pass a b same ∙ none) in (
      λ v. no_handles (params_tuple a) v (whether (params_tuple a) ∙ both.0),
      λ v. no_handles (answer_tuple a) v (whether (answer_tuple a) ∙ answer_handles a.answer ∙ both.1),
    )
