-- The modules of a component and of those in it, in the order in which they stand.
use Rattle.std.specs.Prelude.{ℕ, ◌+◌, List, [], ◌∷◌, ◌++◌}
use Rattle.wasm_ast.specs.Boxed.{Held}
use Rattle.wasm_ast.specs.declared.module.Module.{Module}
use Rattle.comp_grammar.specs.Trees.{Part, Tree, CoreModule, Nested, End as NoParts, More as Section}

abbrev mutual
  pub modules_in_part : Part → List (Held Module)
  modules_in_part (CoreModule span m) = record { value = m } ∷ []
  modules_in_part (Nested span tree) = modules_in tree
  modules_in_part _ = []

  pub modules_in : Tree → List (Held Module)
  modules_in NoParts = []
  modules_in (Section part rest) = modules_in_part part ++ modules_in rest

-- how many sections a component has, with those of the components in it
abbrev mutual
  pub weight_of_part : Part → ℕ
  weight_of_part (Nested span tree) = weight tree + 1
  weight_of_part _ = 1

  pub weight : Tree → ℕ
  weight NoParts = 0
  weight (Section part rest) = weight_of_part part + weight rest
