-- The modules of sections, from the last one on, and how many sections are left.
use Rattle.std.proofs.Common.{◌≡◌, ◌∙◌, ◌+◌, ◌<◌, ap, sym, refl, ℕ, List, [], ◌∷◌, ◌++◌, reverse, arith}
use Rattle.std.proofs.lemmas.List.{append_assoc, append-nil, reverse-append}
use Rattle.wasm_ast.specs.declared.component.Section.{Section}
use Rattle.comp_grammar.specs.Trees.{plain_section, plain_sections}
use Rattle.comp_linking.specs.Modules.{modules_in, modules_in_part, weight, weight_of_part}

modules_behind : (xs ys : List Section) → modules_in (plain_sections (xs ++ ys)) ≡ modules_in (plain_sections xs) ++ modules_in (plain_sections ys)
modules_behind [] ys = refl
modules_behind (x ∷ xs) ys = ap (λ ms. modules_in_part (plain_section x) ++ ms) (modules_behind xs ys) ∙ sym (append_assoc (modules_in_part (plain_section x)) (modules_in (plain_sections xs)) (modules_in (plain_sections ys)))

-- those of what stands after come first
pub modules_reversed : (xs ys : List Section) → reverse (modules_in (plain_sections (xs ++ ys))) ≡ reverse (modules_in (plain_sections ys)) ++ reverse (modules_in (plain_sections xs))
modules_reversed xs ys = ap reverse (modules_behind xs ys) ∙ reverse-append (modules_in (plain_sections xs)) (modules_in (plain_sections ys))

pub modules_last : (xs : List Section) (s : Section) → reverse (modules_in (plain_sections (xs ++ s ∷ []))) ≡ reverse (modules_in_part (plain_section s)) ++ reverse (modules_in (plain_sections xs))
modules_last xs s = modules_reversed xs (s ∷ []) ∙ ap (λ ms. reverse ms ++ reverse (modules_in (plain_sections xs))) (append-nil (modules_in_part (plain_section s)))

pub weight_behind : (xs ys : List Section) → weight (plain_sections (xs ++ ys)) ≡ weight (plain_sections xs) + weight (plain_sections ys)
weight_behind [] ys = omega arith
weight_behind (x ∷ xs) ys = let e = weight_behind xs ys in omega (arith, e)

pub weight_last : (xs : List Section) (s : Section) → weight (plain_sections (xs ++ s ∷ [])) ≡ weight (plain_sections xs) + weight_of_part (plain_section s)
weight_last xs s = let e = weight_behind xs (s ∷ []) in omega (arith, e)

pub ruleset taken = (modules_reversed, modules_last, weight_behind, weight_last, append-nil, append_assoc)
