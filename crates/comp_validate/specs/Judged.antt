-- What is answered of sections: they are valid, and the innermost scope is what they add to, or the first at fault breaks this rule.
use Rattle.std.specs.Prelude.{ℕ, List, Option, Some, None}
use Rattle.comp_grammar.specs.Trees.{Part, Tree}
use Rattle.comp_types.specs.Spaces.{Space}
use Rattle.comp_types.specs.Added.{after_part, after_tree}
use Rattle.comp_types.specs.Validity.{IsValidPart, IsValidTree, BreaksPart, BreaksTree}
use Rattle.comp_defining.specs.declared.scopes.Scopes.{Scopes}
use Rattle.comp_defining.specs.Around.{StandAll}
use Rattle.comp_validate.specs.declared.components.Broken.{Broken}

abbrev pub JudgedPart : List Space → Space → Part → Scopes → Option ℕ → Type 0
JudgedPart around s part x None = IsValidPart around s part × StandAll around (after_part around s part) x
JudgedPart around s part x (Some rule) = BreaksPart around s part rule

abbrev pub JudgedTree : List Space → Space → Tree → Scopes → Option Broken → Type 0
JudgedTree around s tree x None = IsValidTree around s tree × StandAll around (after_tree around s tree) x
JudgedTree around s tree x (Some broken) = BreaksTree around s tree broken.rule broken.section
