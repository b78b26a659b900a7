-- What is said of the output of a valid component that imports nothing.
use Rattle.std.specs.Prelude.{◌≡◌, ℕ, IsTrue}
use Rattle.comp_types.specs.Items.{End}
use Rattle.comp_types.specs.Substitution.{entries_with}
use Rattle.comp_grammar.specs.Trees.{Tree}
use Rattle.comp_types.specs.GivenResources.{is_among, named_in}
use Rattle.comp_types.specs.Added.{type_of}
use Rattle.comp_types.specs.Validity.{IsValidComponent}
use Rattle.virt_output.specs.Output.{output_tree}

-- a valid component that imports nothing
pub record StandsAlone (app : Tree) : Type 0 where
  pub valid : IsValidComponent app
  pub imports : (type_of app).imports ≡ End

abbrev pub output_of : Tree → Tree
output_of app = output_tree app (type_of app).exports

-- The output exports what the application exports, name by name, but for the numbers of resources: those that stand in it get others.
abbrev pub ExportsRenamed : Tree → (ℕ → ℕ) → Type 0
ExportsRenamed app f = (type_of (output_of app)).exports ≡ entries_with f (type_of app).exports

-- no two of the resources in the exports get one number
abbrev pub KeepsApart : Tree → (ℕ → ℕ) → Type 0
KeepsApart app f = (x y : ℕ) → IsTrue (is_among (named_in (type_of app).exports) x) → IsTrue (is_among (named_in (type_of app).exports) y) → f x ≡ f y → x ≡ y
