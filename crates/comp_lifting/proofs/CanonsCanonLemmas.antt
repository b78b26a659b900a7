-- The flat types of a function, by whether they spill.
use Rattle.std.proofs.Common.{◌≡◌, ap, refl, sym, subst, ℕ, suc, ◌≤◌, List, [], ◌∷◌, Bool, true, false, take, length, Option, Some, None, arith, inl, inr}
use Rattle.std.specs.Prelude.{if◌then◌else◌, ◌==◌}
use Rattle.std.specs.Cmp.Lexicographic.{pointwise}
use Rattle.virt_base.specs.declared.core_type.CoreType.{CoreType}
use Rattle.virt_base.specs.declared.core_type.CoreType.TheVariants.{I32}
use Rattle.wit_types.specs.Plain.{Plain, PlainFunc}
use Rattle.wit_types.specs.Layout.{flat_fields}
use Rattle.abi_layout.specs.declared.flat_types.Flat.{Flat}
use Rattle.abi_layout.specs.Flat.{types_of, within}
use Rattle.abi_layout.specs.Functions.{params_spill, result_spills, core_params, flat_result, lifted}
use Rattle.comp_types.specs.CoreMatching.{same_core}
use Rattle.comp_facts.specs.declared.facts.Facts.{Facts}
use Rattle.comp_facts.specs.declared.funcs.FuncFacts.{FuncFacts}
use Rattle.comp_facts.specs.Facts.{IsAnswerOf, IsFuncFactsOf}
use Rattle.comp_facts.proofs.FlatCounts.{same_list}

pub params-one : (t : PlainFunc) → params_spill t ≡ true → core_params t ≡ I32 ∷ []
params-one t e = ap (λ b. if b then I32 ∷ [] else flat_fields t.params) e

pub params-flat : (t : PlainFunc) → params_spill t ≡ false → core_params t ≡ flat_fields t.params
params-flat t e = ap (λ b. if b then I32 ∷ [] else flat_fields t.params) e

pub results-one : (t : PlainFunc) → result_spills t ≡ true → (lifted t).results ≡ I32 ∷ []
results-one t e = ap (λ b. if b then I32 ∷ [] else flat_result t.answer) e

pub results-flat : (t : PlainFunc) → result_spills t ≡ false → (lifted t).results ≡ flat_result t.answer
results-flat t e = ap (λ b. if b then I32 ∷ [] else flat_result t.answer) e

-- a list of at most 16 types is what stands there
pub flat-is : (f : Flat) (xs : List CoreType) → types_of f ≡ within xs → f.count ≤ 16 → take f.count f.types ≡ xs
flat-is f xs e few = elim (same_list f.types f.count xs e) [
  | inl long ↦ absurd (omega (arith, long.0))
  | inr short ↦ short.1
]

none-answer : (a : Option Plain) → IsAnswerOf a None → flat_result a ≡ []
none-answer None h = refl
none-answer (Some ty) h = absurd h

pub none-results : (t : PlainFunc) (f : FuncFacts) → IsFuncFactsOf t f → f.answer ≡ None → flat_result t.answer ≡ []
none-results t f h e = none-answer t.answer (subst (IsAnswerOf t.answer) e h.answer)

some-answer : (a : Option Plain) (g : Facts) → IsAnswerOf a (Some g) → types_of g.flat ≡ within (flat_result a)
some-answer None g h = absurd h
some-answer (Some ty) g h = h.flat

pub some-results : (t : PlainFunc) (f : FuncFacts) (g : Facts) → IsFuncFactsOf t f → f.answer ≡ Some g → types_of g.flat ≡ within (flat_result t.answer)
some-results t f g h e = some-answer t.answer g (subst (IsAnswerOf t.answer) e h.answer)

not_zero : (n : ℕ) → (suc n == 0) ≡ false
not_zero n = grind arith

pub same-none : (types : List CoreType) → pointwise same_core types [] ≡ (length types == 0)
same-none [] = refl
same-none (x ∷ xs) = sym (not_zero (length xs))
