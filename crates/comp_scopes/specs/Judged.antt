-- What is answered of a definition: it is valid, and the scope is what it adds to, or it breaks this rule.
use Rattle.std.specs.Prelude.{ℕ, List, Option, Some, None}
use Rattle.comp_types.specs.Spaces.{Space}
use Rattle.comp_types.specs.Definitions.{Definition}
use Rattle.comp_types.specs.Added.{after}
use Rattle.comp_types.specs.Validity.{IsValidDefinition, BreaksDefinition}
use Rattle.comp_scopes.specs.declared.scope.Scope.{Scope}
use Rattle.comp_scopes.specs.Stands.{Stands}

abbrev pub Judged : List Space → Space → Definition → Scope → Option ℕ → Type 0
Judged around s d x None = IsValidDefinition around s d × Stands (after around s d) x
Judged around s d x (Some rule) = BreaksDefinition around s d rule
