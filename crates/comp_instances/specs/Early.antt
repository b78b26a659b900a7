-- The least rule before that of stated types (rule 22) that a definition breaks.
use Rattle.std.specs.Prelude.{ℕ, List, Option, take}
use Rattle.comp_types.specs.Spaces.{Space}
use Rattle.comp_types.specs.Definitions.{Definition}
use Rattle.comp_types.specs.Faults.{tests, first_failing}

abbrev pub early_fault : List Space → Space → Definition → Option ℕ
early_fault around s d = first_failing (take 22 (tests around s d))
