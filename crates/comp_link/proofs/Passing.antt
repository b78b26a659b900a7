-- What passes by equal types of functions is the same, and so it is with other numbers of resources.
use Rattle.std.proofs.Common.{◌≡◌, ◌∙◌, ℕ, [], Option, Some, None, refl, ap}
use Rattle.wit_types.specs.Plain.{Plain, Parts, PlainFunc, ListType, RecordType, VariantType, OwnType, BorrowType, End, More, Bare}
use Rattle.comp_types.specs.Equality.{IsSameValue, AreSameParts, AreSameParameters, IsSameAnswer, IsSameFunc}
use Rattle.comp_types.specs.Substitution.{value_with, parts_with, answer_with, func_with}
use Rattle.comp_link.specs.Exports.{no_number, nameless, passing}

-- ---- equal types

module _ (Meets : ℕ → ℕ → Type 0) where
  mutual
    value_same : (a b : Plain) → IsSameValue Meets a b → value_with no_number a ≡ value_with no_number b
    value_same a (ListType item) h = ap (value_with no_number) h.1 ∙ ap ListType (value_same h.0 item h.2)
    value_same a (RecordType form fields) h = ap (value_with no_number) h.1 ∙ ap (RecordType form) (parts_same h.0 fields h.2)
    value_same a (VariantType form cases) h = ap (value_with no_number) h.1 ∙ ap (VariantType form) (parts_same h.0 cases h.2)
    value_same a (OwnType r) h = ap (value_with no_number) h.1
    value_same a (BorrowType r) h = ap (value_with no_number) h.1
    value_same a b h = ap (value_with no_number) h

    parts_same : (these those : Parts) → AreSameParts Meets these those → parts_with no_number these ≡ parts_with no_number those
    parts_same these End h = ap (parts_with no_number) h
    parts_same these (More name ty rest) h = ap (parts_with no_number) h.2 ∙ (λ i. More name (value_same h.0 ty h.3 i) (parts_same h.1 rest h.4 i))
    parts_same these (Bare name rest) h = ap (parts_with no_number) h.1 ∙ ap (Bare name) (parts_same h.0 rest h.2)

  params_same : (these those : Parts) → AreSameParameters Meets these those → nameless these ≡ nameless those
  params_same these End h = ap nameless h
  params_same these (More name ty rest) h = ap nameless h.3 ∙ (λ i. More [] (value_same h.1 ty h.4 i) (params_same h.2 rest h.5 i))
  params_same these (Bare name rest) h = ap nameless h.2 ∙ ap (Bare []) (params_same h.1 rest h.3)

  answer_same : (a b : Option Plain) → IsSameAnswer Meets a b → answer_with no_number a ≡ answer_with no_number b
  answer_same a None h = ap (answer_with no_number) h
  answer_same a (Some ty) h = ap (answer_with no_number) h.1 ∙ ap Some (value_same h.0 ty h.2)

  pub passing_same : (a b : PlainFunc) → IsSameFunc Meets a b → passing a ≡ passing b
  passing_same a b h = (λ i. record { params = params_same a.params b.params h.params i; answer = answer_same a.answer b.answer h.answer i })

-- ---- other numbers of resources

module _ (f : ℕ → ℕ) where
  mutual
    value_again : (ty : Plain) → value_with no_number (value_with f ty) ≡ value_with no_number ty
    value_again (ListType item) = ap ListType (value_again item)
    value_again (RecordType form fields) = ap (RecordType form) (parts_again fields)
    value_again (VariantType form cases) = ap (VariantType form) (parts_again cases)
    value_again (OwnType r) = refl
    value_again (BorrowType r) = refl
    value_again ty = refl

    parts_again : (ps : Parts) → parts_with no_number (parts_with f ps) ≡ parts_with no_number ps
    parts_again End = refl
    parts_again (More name ty rest) = (λ i. More name (value_again ty i) (parts_again rest i))
    parts_again (Bare name rest) = ap (Bare name) (parts_again rest)

  params_again : (ps : Parts) → nameless (parts_with f ps) ≡ nameless ps
  params_again End = refl
  params_again (More name ty rest) = (λ i. More [] (value_again ty i) (params_again rest i))
  params_again (Bare name rest) = ap (Bare []) (params_again rest)

  answer_again : (o : Option Plain) → answer_with no_number (answer_with f o) ≡ answer_with no_number o
  answer_again None = refl
  answer_again (Some ty) = ap Some (value_again ty)

  pub passing_with : (ty : PlainFunc) → passing (func_with f ty) ≡ passing ty
  passing_with ty = (λ i. record { params = params_again ty.params i; answer = answer_again ty.answer i })
