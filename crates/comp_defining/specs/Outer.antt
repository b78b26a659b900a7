-- What an outer alias is answered: the least rule that it breaks, or else what stands there is added to the innermost scope.
use Rattle.std.specs.Prelude.{◌≡◌, ℕ, List, ◌∷◌, Option, Some, None, slice_get}
use Rattle.wasm_ast.specs.declared.component.Alias.TheVariants.{Outer}
use Rattle.wasm_ast.specs.declared.component.OuterSort.{OuterSort}
use Rattle.comp_types.specs.Spaces.{Space}
use Rattle.comp_types.specs.Definitions.{AnAlias}
use Rattle.comp_types.specs.Added.{and_outer}
use Rattle.comp_types.specs.Faults.{fault}
use Rattle.comp_defining.specs.declared.scopes.Scopes.{Scopes}
use Rattle.comp_defining.specs.Around.{StandAll}

abbrev pub IsOuter : List Space → Space → OuterSort → ℕ → ℕ → Scopes → Option ℕ → Type 0
IsOuter around s sort count index x None = (fault around s (AnAlias (Outer sort count index)) ≡ None) × StandAll around (and_outer s sort (slice_get (s ∷ around) count) index) x
IsOuter around s sort count index x (Some rule) = fault around s (AnAlias (Outer sort count index)) ≡ Some rule
