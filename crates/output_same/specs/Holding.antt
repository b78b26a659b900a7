-- A component that holds another unchanged.
use Rattle.std.specs.Prelude.{◌≡◌, ℕ, List, [], ◌∷◌, ◌++◌, length}
use Rattle.wasm_format.specs.Format.{u32_format}
use Rattle.comp_grammar.specs.Trees.{Part, Tree, Nested, End, More}
use Rattle.comp_grammar.specs.Components.{preamble}

abbrev pub and_inner : Part → List Tree → List Tree
and_inner (Nested span inner) rest = inner ∷ rest
and_inner _ rest = rest

-- the components that stand in sections of the outermost level
abbrev pub components_in : Tree → List Tree
components_in End = []
components_in (More part rest) = and_inner part (components_in rest)

-- One section of the outermost level holds a component. It is the first after the preamble, and its content is the application's
-- bytes, unchanged.
pub record HoldsOnce (app bytes : List ℕ) (output : Tree) : Type 0 where
  pub inner : Tree
  pub once : components_in output ≡ inner ∷ []
  pub behind : List ℕ
  pub unchanged : bytes ≡ (preamble ++ (4 ∷ u32_format.write (length app))) ++ (app ++ behind)
