-- How deep components stand in one another. A component that holds none is 1 deep.
use Rattle.std.specs.Prelude.{ℕ, suc, max}
use Rattle.comp_grammar.specs.Trees.{Part, Tree, CoreModule, Nested, CoreInstances, Instances, Aliases, Types, Canons, Imports, Exports, Custom, End, More}

unfoldable mutual
  -- how deep the component is that a section holds, and 0 where it holds none
  pub depth_in : Part → ℕ
  depth_in (CoreModule span m) = 0
  depth_in (Nested span inner) = suc (deepest inner)
  depth_in (CoreInstances items) = 0
  depth_in (Instances items) = 0
  depth_in (Aliases items) = 0
  depth_in (Types items) = 0
  depth_in (Canons items) = 0
  depth_in (Imports items) = 0
  depth_in (Exports items) = 0
  depth_in (Custom span) = 0

  -- how deep the deepest component is that these sections hold
  pub deepest : Tree → ℕ
  deepest End = 0
  deepest (More part rest) = max (depth_in part) (deepest rest)

unfoldable pub depth_of : Tree → ℕ
depth_of t = suc (deepest t)
