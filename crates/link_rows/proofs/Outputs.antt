-- The examples of outputs and of hosts compute.
use Rattle.std.proofs.Common.{refl}
use Rattle.comp_worlds.specs.Acts.{◌>>◌, gives, traps, spent, takes_step, with_more, shows}
use Rattle.comp_worlds.specs.Calls.{on, below, core, store_of, finds_room, deep_enough}
use Rattle.comp_worlds.specs.Hosts.{reacts, loses, stays}
use Rattle.comp_worlds.specs.Observed.{runs_calls}
use Rattle.link_rows.specs.Outputs.{OutputExamples, StrategyExamples}

pub output_examples : OutputExamples
unfolding ◌>>◌ gives traps spent takes_step with_more shows on below core store_of finds_room deep_enough reacts loses stays runs_calls
output_examples = record { both = refl; fewer = refl; no_function = refl; nothing = refl; over_strategy = refl }

pub strategy_examples : StrategyExamples
strategy_examples = record { none_asked = refl; asked = refl; called = refl; dropped = refl }
