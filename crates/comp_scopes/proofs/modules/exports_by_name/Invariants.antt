use Rattle.std.proofs.Common.{◌≡◌, ℕ, List, vec_len}
use Rattle.std.specs.Option.{option_or}
use Rattle.comp_types.specs.CoreMatching.{core_look_up}
use Rattle.comp_scopes.specs.Found.{found}
use Rattle.comp_scopes.proofs.modules.exports_by_name.Given as goal

abbrev pub invariant-loop-export : goal.invariant-loop-export
invariant-loop-export l = (q : List ℕ) → option_or (core_look_up q l.rest.items) (found l.map q) ≡ core_look_up q l.fn.exports

abbrev pub decreases-loop-export : goal.decreases-loop-export
decreases-loop-export l = vec_len l.rest
