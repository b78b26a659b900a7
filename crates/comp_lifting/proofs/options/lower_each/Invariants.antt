use Rattle.std.proofs.Common.{◌≡◌, length, None}
use Rattle.std.specs.List.{list_all}
use Rattle.comp_types.specs.Rules.{option_is_sound}
use Rattle.comp_lifting.proofs.options.lower_each.Given as goal

abbrev pub invariant-loop-option : goal.invariant-loop-option
invariant-loop-option g l = list_all (option_is_sound (g.F.CoreFuncs.at l.funcs) None) l.options ≡ list_all (option_is_sound (g.F.CoreFuncs.at l.funcs) None) l.rest

abbrev pub decreases-loop-option : goal.decreases-loop-option
decreases-loop-option g l = length l.rest
