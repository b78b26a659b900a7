use Rattle.std.proofs.Common.{◌≡◌, length, Some}
use Rattle.std.specs.List.{list_all}
use Rattle.wit_types.specs.Plain.{PlainFunc}
use Rattle.comp_types.specs.Rules.{option_is_sound, post_return_type}
use Rattle.comp_facts.specs.Facts.{IsFuncFactsOf}
use Rattle.comp_lifting.proofs.options.lift_each.Given as goal

abbrev pub invariant-loop-option : goal.invariant-loop-option
invariant-loop-option g l = (t : PlainFunc) → IsFuncFactsOf t l.ty
    → list_all (option_is_sound (g.F.CoreFuncs.at l.funcs) (Some (post_return_type t))) l.options ≡ list_all (option_is_sound (g.F.CoreFuncs.at l.funcs) (Some (post_return_type t))) l.rest

abbrev pub decreases-loop-option : goal.decreases-loop-option
decreases-loop-option g l = length l.rest
