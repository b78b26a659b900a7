use Rattle.std.proofs.Common.{ℕ, List, ◌++◌, take}
use Rattle.comp_scopes.specs.Numbers.{HasNumbers}
use Rattle.comp_instances.proofs.numbering.push_all.Given as goal

abbrev pub invariant-loop-number : goal.invariant-loop-number
invariant-loop-number l = (rs : List ℕ) → HasNumbers rs l.fn.numbers → HasNumbers (rs ++ take l.number-index l.list) l.numbers
