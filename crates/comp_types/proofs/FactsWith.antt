-- With other resources a type without handles stays as it is.
use Rattle.std.proofs.Common.{◌≡◌, ap, sym, refl, ℕ, Bool, true, false, Option, Some, None}
use Rattle.std.specs.Prelude.{◌||◌}
use Rattle.std.proofs.lemmas.Bool.{false≢true}
use Rattle.wit_types.specs.Plain.{Plain, Parts, PlainFunc, ListType, RecordType, VariantType, OwnType, BorrowType, End, More, Bare}
use Rattle.comp_facts.specs.Handles.{has_handle, has_handle_in, answer_has_handle, func_has_handle}
use Rattle.comp_types.specs.Substitution.{value_with, parts_with, answer_with, func_with}

module _ (f : ℕ → ℕ) where
  neither : (a b : Bool) → (a || b) ≡ false → (a ≡ false) × (b ≡ false)
  neither true b h = absurd (false≢true (sym h))
  neither false b h = (refl, h)

  mutual
    pub value-stays : (p : Plain) → has_handle p ≡ false → value_with f p ≡ p
    value-stays (ListType item) h = ap ListType (value-stays item h)
    value-stays (RecordType form ps) h = ap (RecordType form) (parts-stay ps h)
    value-stays (VariantType form ps) h = ap (VariantType form) (parts-stay ps h)
    value-stays (OwnType r) h = absurd (false≢true (sym h))
    value-stays (BorrowType r) h = absurd (false≢true (sym h))
    value-stays _ h = refl

    parts-stay : (ps : Parts) → has_handle_in ps ≡ false → parts_with f ps ≡ ps
    parts-stay End h = refl
    parts-stay (More n ty rest) h = let e = neither (has_handle ty) (has_handle_in rest) h in (λ i. More n (value-stays ty e.0 i) (parts-stay rest e.1 i))
    parts-stay (Bare n rest) h = ap (Bare n) (parts-stay rest h)

  answer-stays : (a : Option Plain) → answer_has_handle a ≡ false → answer_with f a ≡ a
  answer-stays None h = refl
  answer-stays (Some ty) h = ap Some (value-stays ty h)

  pub func-stays : (ty : PlainFunc) → func_has_handle ty ≡ false → func_with f ty ≡ ty
  func-stays ty h = let e = neither (has_handle_in ty.params) (answer_has_handle ty.answer) h in
      (λ i. record { params = parts-stay ty.params e.0 i; answer = answer-stays ty.answer e.1 i })
