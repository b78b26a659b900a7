-- The examples compute.
use Rattle.std.proofs.Common.{refl}
use Rattle.comp_worlds.specs.Acts.{◌>>◌, gives, traps, spent, takes_step, with_more, shows}
use Rattle.comp_worlds.specs.Calls.{on, below, core, store_of, finds_room, deep_enough}
use Rattle.comp_worlds.specs.Hosts.{reacts, loses, stays}
use Rattle.comp_worlds.specs.Observed.{runs_calls}
use Rattle.link_rows.specs.WorldsRows.{ClockExamples, ReallocExamples, BorrowExamples, DestructorExamples, EnteredExamples}

pub clock_examples : ClockExamples
unfolding ◌>>◌ gives traps spent takes_step with_more shows on below core store_of finds_room deep_enough reacts loses stays runs_calls
clock_examples = record { once = refl; fewer = refl; twice = refl; deep = refl; deeper = refl; deeper_spent = refl }

pub realloc_examples : ReallocExamples
unfolding ◌>>◌ gives traps spent takes_step with_more shows on below core store_of finds_room deep_enough reacts loses stays runs_calls
realloc_examples = record { refused = refl; granted = refl }

pub borrow_examples : BorrowExamples
unfolding ◌>>◌ gives traps spent takes_step with_more shows on below core store_of finds_room deep_enough reacts loses stays runs_calls
borrow_examples = record { dropped = refl; kept = refl }

pub destructor_examples : DestructorExamples
unfolding ◌>>◌ gives traps spent takes_step with_more shows on below core store_of finds_room deep_enough reacts loses stays runs_calls
destructor_examples = record { told = refl }

pub entered_examples : EnteredExamples
unfolding ◌>>◌ gives traps spent takes_step with_more shows on below core store_of finds_room deep_enough reacts loses stays runs_calls
entered_examples = record { called_back = refl; started = refl; not_yet = refl }
