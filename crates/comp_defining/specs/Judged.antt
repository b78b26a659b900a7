-- What is answered of definitions, with the scopes around them: they are valid, and the innermost scope is what they add to, or the
-- first at fault breaks this rule.
use Rattle.std.specs.Prelude.{ℕ, List, Option, Some, None}
use Rattle.comp_types.specs.Spaces.{Space}
use Rattle.comp_types.specs.Definitions.{Definition}
use Rattle.comp_types.specs.Added.{after, after_all}
use Rattle.comp_types.specs.Validity.{IsValidDefinition, BreaksDefinition, AreValid, Break}
use Rattle.comp_defining.specs.declared.scopes.Scopes.{Scopes}
use Rattle.comp_defining.specs.Around.{StandAll}

abbrev pub JudgedIn : List Space → Space → Definition → Scopes → Option ℕ → Type 0
JudgedIn around s d x None = IsValidDefinition around s d × StandAll around (after around s d) x
JudgedIn around s d x (Some rule) = BreaksDefinition around s d rule

abbrev pub JudgedEach : List Space → Space → List Definition → Scopes → Option ℕ → Type 0
JudgedEach around s ds x None = AreValid around s ds × StandAll around (after_all around s ds) x
JudgedEach around s ds x (Some rule) = Break around s ds rule
