-- A component as the list of its sections.
use Rattle.std.proofs.Common.{◌≡◌, List, [], ◌∷◌, ◌++◌, refl, ap, ◌∙◌, append_assoc}
use Rattle.std.proofs.lemmas.List.{append-nil}
use Rattle.wasm_format.specs.Format.{Format}
use Rattle.wasm_format.specs.Sections.{built}
use Rattle.comp_grammar.specs.Trees.{Part, Tree, End, More}
use Rattle.comp_grammar.specs.Components.{add, parts_of, sections}

abbrev pub adds : Tree → List Part → Tree
adds t [] = t
adds t (part ∷ parts) = adds (add t part) parts

pub built_is : (inner : Format Tree) (t : Tree) (parts : List Part) → built (sections inner) t parts ≡ adds t parts
unfolding sections
built_is inner t [] = refl
built_is inner t (part ∷ parts) = built_is inner (add t part) parts

pub parts_add : (t : Tree) (part : Part) → parts_of (add t part) ≡ parts_of t ++ part ∷ []
parts_add End part = refl
parts_add (More first rest) part = ap (λ (z : List Part). first ∷ z) (parts_add rest part)

parts_adds : (t : Tree) (parts : List Part) → parts_of (adds t parts) ≡ parts_of t ++ parts
parts_adds t [] = simp append-nil
parts_adds t (part ∷ parts) = parts_adds (add t part) parts ∙ ap (λ (z : List Part). z ++ parts) (parts_add t part) ∙ append_assoc (parts_of t) (part ∷ []) parts

pub parts_built : (parts : List Part) → parts_of (adds End parts) ≡ parts
parts_built parts = parts_adds End parts

add_more : (first : Part) (t : Tree) (parts : List Part) → adds (More first t) parts ≡ More first (adds t parts)
add_more first t [] = refl
add_more first t (part ∷ parts) = add_more first (add t part) parts

pub built_again : (t : Tree) → adds End (parts_of t) ≡ t
built_again End = refl
built_again (More part rest) = add_more part End (parts_of rest) ∙ ap (More part) (built_again rest)
