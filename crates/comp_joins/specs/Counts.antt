-- Each module of a component has as many bodies as functions, and as many data segments as it counts (WebAssembly Core 2.0, section
-- 5.5.16): so bytes spell modules.
use Rattle.std.specs.Prelude.{ℕ, List}
use Rattle.comp_grammar.specs.Trees.{Part, Tree, CoreModule, Nested, End, More}
use Rattle.comp_grammar.specs.Components.{SpellsComponent}
use Rattle.core_instance.specs.Matching.{HasCounts}

-- in the component and in those that stand in it
abbrev mutual
  pub CountsHoldIn : Part → Type 0
  CountsHoldIn (CoreModule span m) = HasCounts m
  CountsHoldIn (Nested span tree) = CountsHold tree
  CountsHoldIn _ = Unit {0}

  pub CountsHold : Tree → Type 0
  CountsHold End = Unit {0}
  CountsHold (More part rest) = CountsHoldIn part × CountsHold rest

-- of each component that bytes spell
abbrev pub SpelledCount : Type 0
SpelledCount = (c : Tree) (bytes : List ℕ) → SpellsComponent c bytes → CountsHold c
