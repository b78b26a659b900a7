-- A value type that matches another one resource for resource is that one.
use Rattle.std.proofs.Common.{◌≡◌, ◌∙◌, ap, sym, ℕ, [], Bool, true, Some}
use Rattle.std.specs.Bool.{OnTrue}
use Rattle.std.proofs.lemmas.Bool.{OnTrue_from}
use Rattle.wit_types.specs.Plain.{Plain, Parts, ListType, RecordType, VariantType, OwnType, BorrowType, End, More, Bare}
use Rattle.comp_types.specs.Equality.{IsSameValue, AreSameParts}
use Rattle.comp_types.specs.Matching.{Pairs, GoesOn, all_same, matched_value}
use Rattle.comp_types.proofs.ValueLemmas.{was_true}
use Rattle.comp_types.proofs.ValueLaws.{value-sound}
use Rattle.comp_types.proofs.EqualLaws.{same-agrees}

abbrev Same : ℕ → ℕ → Type 0
Same x y = x ≡ y

mutual
  same-value : (a b : Plain) → IsSameValue Same a b → a ≡ b
  same-value a (ListType item) s = s.1 ∙ ap ListType (same-value s.0 item s.2)
  same-value a (RecordType form fields) s = s.1 ∙ ap (RecordType form) (same-parts s.0 fields s.2)
  same-value a (VariantType form cases) s = s.1 ∙ ap (VariantType form) (same-parts s.0 cases s.2)
  same-value a (OwnType y) s = s.1 ∙ ap OwnType s.2
  same-value a (BorrowType y) s = s.1 ∙ ap BorrowType s.2
  same-value a _ s = s

  same-parts : (these parts : Parts) → AreSameParts Same these parts → these ≡ parts
  same-parts these End s = s
  same-parts these (More name ty rest) s = s.2 ∙ (λ i. More name (same-value s.0 ty s.3 i) (same-parts s.1 rest s.4 i))
  same-parts these (Bare name rest) s = s.1 ∙ ap (Bare name) (same-parts s.0 rest s.2)

pub values_same : (old more : Pairs) (a b : Plain) (went same : Bool) → old ≡ [] → GoesOn went more (matched_value old a b) → went ≡ true → same ≡ all_same more → OnTrue same (a ≡ b)
values_same old more a b went same is h e answer =
    let met : matched_value [] a b ≡ Some more = ap (λ by. matched_value by a b) (sym is) ∙ was_true went more (matched_value old a b) h e in
    OnTrue_from same (a ≡ b) (λ yes. same-value a b ((value-sound Same [] more a b met).1 (same-agrees more (sym answer ∙ yes))))
