-- Types of which one has more parts are not alike.
use Rattle.std.proofs.Common.{◌≡◌, ◌≢◌, refl, sym, ap, ◌∙◌, Bool, true, false, Option, Some, None, List, [], ◌∷◌, length, arith, ◌&&◌}
use Rattle.std.specs.Str.{bytes_eq}
use Rattle.wit_types.specs.declared.types.Case.{Case, out-Case}
use Rattle.wit_types.specs.declared.types.Field.{Field}
use Rattle.wit_types.specs.declared.types.WitType.{WitType}
use Rattle.wit_types.specs.Plain.{Name, Plain, Parts, End, payload_of, fields_of, types_of, cases_of, case_part, bare, plain}
use Rattle.reference_step.specs.Rules.{alike, alike_parts, alike_results, same_labels}

and_false : (b : Bool) → (b && false) ≡ false
and_false true = refl
and_false false = refl

pub labels_differ : (xs ys : List Name) → length xs ≢ length ys → same_labels xs ys ≡ false
labels_differ [] [] differ = absurd (differ refl)
labels_differ [] (y ∷ ys) differ = refl
labels_differ (x ∷ xs) [] differ = refl
labels_differ (x ∷ xs) (y ∷ ys) differ = rw (labels_differ xs ys (λ e. differ (omega (arith, e)))) (and_false _)

and_and_false : (a b : Bool) → (a && (b && false)) ≡ false
and_and_false true b = and_false b
and_and_false false b = refl

pub fields_differ : (xs ys : List Field) → length xs ≢ length ys → alike_parts (fields_of xs) (fields_of ys) ≡ false
fields_differ [] [] differ = absurd (differ refl)
fields_differ [] (y ∷ ys) differ = refl
fields_differ (x ∷ xs) [] differ = refl
fields_differ (x ∷ xs) (y ∷ ys) differ = rw (fields_differ xs ys (λ e. differ (omega (arith, e)))) (and_and_false _ _)

pub types_differ : (xs ys : List WitType) → length xs ≢ length ys → alike_parts (types_of xs) (types_of ys) ≡ false
types_differ [] [] differ = absurd (differ refl)
types_differ [] (y ∷ ys) differ = refl
types_differ (x ∷ xs) [] differ = refl
types_differ (x ∷ xs) (y ∷ ys) differ = let rest = types_differ xs ys (λ e. differ (omega (arith, e))) in rw rest (and_false (alike (plain x) (plain y)))

-- a case before others
pub case_before : (name other : Name) (p q : Option Plain) (rest others : Parts) → alike_parts (case_part name p rest) (case_part other q others) ≡ (bytes_eq name other && (alike_results p q && alike_parts rest others))
case_before name other None None rest others = refl
case_before name other None (Some q) rest others = sym (and_false _)
case_before name other (Some p) None rest others = sym (and_false _)
case_before name other (Some p) (Some q) rest others = refl

case_end : (name : Name) (p : Option Plain) (rest : Parts) → alike_parts (case_part name p rest) End ≡ false
case_end name None rest = refl
case_end name (Some p) rest = refl

end_case : (name : Name) (p : Option Plain) (rest : Parts) → alike_parts End (case_part name p rest) ≡ false
end_case name None rest = refl
end_case name (Some p) rest = refl

pub cases_differ : (xs ys : List Case) → length xs ≢ length ys → alike_parts (cases_of xs) (cases_of ys) ≡ false
cases_differ [] [] differ = absurd (differ refl)
cases_differ [] (y ∷ ys) differ = end_case _ _ _
cases_differ (x ∷ xs) [] differ = case_end _ _ _
cases_differ (x ∷ xs) (y ∷ ys) differ =
    let rest = cases_differ xs ys (λ e. differ (omega (arith, e))) in
    case_before (out-Case x).name (out-Case y).name (payload_of (out-Case x).ty) (payload_of (out-Case y).ty) (cases_of xs) (cases_of ys)
    ∙ ap (λ b. bytes_eq (out-Case x).name (out-Case y).name && (alike_results (payload_of (out-Case x).ty) (payload_of (out-Case y).ty) && b)) rest
    ∙ and_and_false (bytes_eq (out-Case x).name (out-Case y).name) (alike_results (payload_of (out-Case x).ty) (payload_of (out-Case y).ty))

-- an enum has cases without payloads
pub bare_alike : (xs ys : List Name) → alike_parts (bare xs) (bare ys) ≡ same_labels xs ys
bare_alike [] [] = refl
bare_alike [] (y ∷ ys) = refl
bare_alike (x ∷ xs) [] = refl
bare_alike (x ∷ xs) (y ∷ ys) = ap (λ b. bytes_eq x y && b) (bare_alike xs ys)

-- a result has two cases without names
pub result_alike : (ok err other_ok other_err : Option Plain) → alike_parts (case_part [] ok (case_part [] err End)) (case_part [] other_ok (case_part [] other_err End)) ≡ (alike_results ok other_ok && alike_results err other_err)
result_alike ok err other_ok other_err = case_before [] [] ok other_ok _ _ ∙ ap (λ b. alike_results ok other_ok && b) (case_before [] [] err other_err End End ∙ and_true _)
  where
    and_true : (b : Bool) → (b && true) ≡ b
    and_true true = refl
    and_true false = refl
