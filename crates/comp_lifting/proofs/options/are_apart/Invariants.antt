use Rattle.std.proofs.Common.{◌≡◌, length}
use Rattle.comp_types.specs.Rules.{all_differ, is_same_option}
use Rattle.comp_indexes.proofs.DifferLemmas.{are_new}
use Rattle.comp_lifting.specs.Met.{has_met}
use Rattle.comp_lifting.proofs.options.are_apart.Given as goal

abbrev pub invariant-loop-option : goal.invariant-loop-option
invariant-loop-option l = all_differ is_same_option l.options ≡ are_new is_same_option (has_met l.met) l.rest

abbrev pub decreases-loop-option : goal.decreases-loop-option
decreases-loop-option l = length l.rest
