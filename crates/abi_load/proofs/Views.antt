-- Types and values by their trees.
use Rattle.std.proofs.lemmas.Bool.Decides.{nat_tests}
use Rattle.wit_types.proofs.PlainLemmas.{plains}
use Rattle.wit_types.proofs.ValueLemmas.{values}

pub ruleset views = (plains, values, nat_tests)
