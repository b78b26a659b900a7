-- The examples compute.
use Rattle.std.proofs.Common.{refl}
use Rattle.comp_worlds.specs.Acts.{◌>>◌, gives, traps, spent, takes_step, with_more, shows}
use Rattle.comp_worlds.specs.Calls.{on, below, core, store_of, finds_room, deep_enough}
use Rattle.comp_worlds.specs.Hosts.{reacts, loses, stays}
use Rattle.comp_worlds.specs.Observed.{runs_calls}
use Rattle.link_rows.specs.WrapsRows.{AloneExamples, WrappedExamples, SilentExamples}

pub alone_examples : AloneExamples
unfolding ◌>>◌ gives traps spent takes_step with_more shows on below core store_of finds_room deep_enough reacts loses stays runs_calls
alone_examples = record { both = refl; fewer = refl; no_function = refl }

pub wrapped_examples : WrappedExamples
unfolding ◌>>◌ gives traps spent takes_step with_more shows on below core store_of finds_room deep_enough reacts loses stays runs_calls
wrapped_examples = record { both = refl; fewer = refl; no_function = refl; no_step = refl }

pub silent_examples : SilentExamples
unfolding ◌>>◌ gives traps spent takes_step with_more shows on below core store_of finds_room deep_enough reacts loses stays runs_calls
silent_examples = record { alone = refl; alone_fewer = refl; no_function = refl; wrapped = refl; wrapped_fewer = refl; wrapped_no_function = refl; empty_sections = refl }
