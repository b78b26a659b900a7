-- Types and values by their trees.
use Rattle.std.proofs.lemmas.Bool.Decides.{nat_tests}
use Rattle.wit_types.proofs.PlainLemmas.{plains}
use Rattle.wit_types.proofs.ValueLemmas.{values}
use Rattle.abi_layout.proofs.LayoutLemmas.{layouts, greatest_alignment-two, count-two}
use Rattle.abi_store.proofs.Runs.{count-values_of, count-byte_values}
use Rattle.abi_store.proofs.PartLemmas.{case_type-bare}

pub ruleset views = (plains, values, nat_tests, count-values_of, count-byte_values)

pub ruleset kinds = (layouts, nat_tests, greatest_alignment-two, count-two, case_type-bare)
