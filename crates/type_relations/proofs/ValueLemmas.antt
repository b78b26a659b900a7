-- The resources that value types name, by the lists of their parts; a type without handles names none.
use Rattle.std.proofs.Common.{◌≡◌, ◌∙◌, ap, refl, sym, ℕ, List as Lst, [], ◌∷◌, ◌++◌, Bool, true, false, Option, Some, None}
use Rattle.std.specs.Prelude.{◌||◌}
use Rattle.std.proofs.lemmas.Bool.{false≢true}
use Rattle.wit_types.specs.Plain.{Name, Plain, Parts, PlainFunc, ListType, RecordType, VariantType, OwnType, BorrowType, End, More, Bare, bare, case_part}
use Rattle.comp_facts.specs.Handles.{has_handle, has_handle_in, answer_has_handle, func_has_handle}
use Rattle.comp_types.specs.GivenResources.{named_in_value, named_in_parts, named_in_answer, named_in_func}
use Rattle.comp_types.specs.Rules.{is_filled}
use Rattle.type_relations.proofs.OnceLemmas.{each-append}

-- labels alone name no resource
pub named-bare : (ls : Lst Name) → named_in_parts (bare ls) ≡ []
named-bare [] = refl
named-bare (l ∷ ls) = named-bare ls

pub named-case_part : (name : Name) (p : Option Plain) (rest : Parts) → named_in_parts (case_part name p rest) ≡ named_in_answer p ++ named_in_parts rest
named-case_part name None rest = refl
named-case_part name (Some ty) rest = refl

pub append-nothing : (xs : Lst ℕ) → xs ++ [] ≡ xs
append-nothing [] = refl
append-nothing (x ∷ xs) = ap (λ zs. x ∷ zs) (append-nothing xs)

pub ruleset values = (named-bare, named-case_part, append-nothing, each-append)

-- ---- types with handles

filled-append : (xs ys : Lst ℕ) → is_filled (xs ++ ys) ≡ (is_filled xs || is_filled ys)
filled-append [] ys = refl
filled-append (x ∷ xs) ys = refl

either_is : (xs ys : Lst ℕ) (a b : Bool) → is_filled xs ≡ a → is_filled ys ≡ b → is_filled (xs ++ ys) ≡ (a || b)
either_is xs ys a b e f = filled-append xs ys ∙ (ap (λ c. c || is_filled ys) e ∙ ap (λ c. a || c) f)

mutual
  pub value-filled : (p : Plain) → is_filled (named_in_value p) ≡ has_handle p
  value-filled (ListType item) = value-filled item
  value-filled (RecordType form ps) = parts-filled ps
  value-filled (VariantType form ps) = parts-filled ps
  value-filled (OwnType r) = refl
  value-filled (BorrowType r) = refl
  value-filled _ = refl

  parts-filled : (ps : Parts) → is_filled (named_in_parts ps) ≡ has_handle_in ps
  parts-filled End = refl
  parts-filled (More n ty rest) = either_is (named_in_value ty) (named_in_parts rest) (has_handle ty) (has_handle_in rest) (value-filled ty) (parts-filled rest)
  parts-filled (Bare n rest) = parts-filled rest

answer-filled : (o : Option Plain) → is_filled (named_in_answer o) ≡ answer_has_handle o
answer-filled None = refl
answer-filled (Some ty) = value-filled ty

pub func-filled : (ty : PlainFunc) → is_filled (named_in_func ty) ≡ func_has_handle ty
func-filled ty =
    either_is (named_in_parts ty.params) (named_in_answer ty.answer) (has_handle_in ty.params) (answer_has_handle ty.answer) (parts-filled ty.params) (answer-filled ty.answer)

-- ---- types without handles

either_false : (a b : Bool) → (a || b) ≡ false → (a ≡ false) × (b ≡ false)
either_false true b h = absurd (false≢true (sym h))
either_false false b h = (refl, h)

both_nothing : (xs ys : Lst ℕ) → xs ≡ [] → ys ≡ [] → xs ++ ys ≡ []
both_nothing xs ys e f = ap (λ zs. zs ++ ys) e ∙ f

mutual
  pub value-nothing : (p : Plain) → has_handle p ≡ false → named_in_value p ≡ []
  value-nothing (ListType item) h = value-nothing item h
  value-nothing (RecordType form ps) h = parts-nothing ps h
  value-nothing (VariantType form ps) h = parts-nothing ps h
  value-nothing (OwnType r) h = absurd (false≢true (sym h))
  value-nothing (BorrowType r) h = absurd (false≢true (sym h))
  value-nothing _ h = refl

  pub parts-nothing : (ps : Parts) → has_handle_in ps ≡ false → named_in_parts ps ≡ []
  parts-nothing End h = refl
  parts-nothing (More n ty rest) h =
      let e = either_false (has_handle ty) (has_handle_in rest) h in both_nothing (named_in_value ty) (named_in_parts rest) (value-nothing ty e.0) (parts-nothing rest e.1)
  parts-nothing (Bare n rest) h = parts-nothing rest h

answer-nothing : (o : Option Plain) → answer_has_handle o ≡ false → named_in_answer o ≡ []
answer-nothing None h = refl
answer-nothing (Some ty) h = value-nothing ty h

pub func-nothing : (ty : PlainFunc) → func_has_handle ty ≡ false → named_in_func ty ≡ []
func-nothing ty h =
    let e = either_false (has_handle_in ty.params) (answer_has_handle ty.answer) h in
    both_nothing (named_in_parts ty.params) (named_in_answer ty.answer) (parts-nothing ty.params e.0) (answer-nothing ty.answer e.1)
