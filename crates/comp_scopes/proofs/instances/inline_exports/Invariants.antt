use Rattle.std.proofs.Common.{◌≡◌, ℕ, List, length}
use Rattle.std.specs.Option.{option_or}
use Rattle.comp_types.specs.CoreMatching.{core_look_up}
use Rattle.comp_types.specs.Spaces.{Space}
use Rattle.comp_types.specs.Added.{core_named}
use Rattle.comp_scopes.specs.Found.{found}
use Rattle.comp_scopes.specs.Scopes.{IsCoreOf}
use Rattle.comp_scopes.proofs.instances.inline_exports.Given as goal

abbrev pub invariant-loop-export : goal.invariant-loop-export
invariant-loop-export l = (s : Space) → IsCoreOf s l.scope → (q : List ℕ)
    → option_or (core_look_up q (core_named s l.rest)) (found l.map q) ≡ core_look_up q (core_named s l.exports)

abbrev pub decreases-loop-export : goal.decreases-loop-export
decreases-loop-export l = length l.rest
