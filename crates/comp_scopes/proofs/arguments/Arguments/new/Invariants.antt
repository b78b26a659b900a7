use Rattle.std.proofs.Common.{◌≡◌, ℕ, List, length}
use Rattle.std.specs.Option.{option_or}
use Rattle.comp_scopes.specs.Arguments.{given, instance_named}
use Rattle.comp_scopes.proofs.arguments.Arguments.new.Given as goal

abbrev pub invariant-loop-arg : goal.invariant-loop-arg
invariant-loop-arg l = (q : List ℕ) → option_or (instance_named l.rest q) (given l.arguments q) ≡ instance_named l.args q

abbrev pub decreases-loop-arg : goal.decreases-loop-arg
decreases-loop-arg l = length l.rest
