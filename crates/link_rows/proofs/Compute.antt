-- The examples compute.
use Rattle.std.proofs.Common.{inl, refl}
use Rattle.comp_worlds.specs.Acts.{◌>>◌, gives, traps, spent, takes_step, with_more, shows}
use Rattle.comp_worlds.specs.Calls.{on, below, core, store_of, finds_room, deep_enough}
use Rattle.comp_worlds.specs.Hosts.{reacts, loses, stays}
use Rattle.comp_worlds.specs.Observed.{runs_calls}
use Rattle.link_rows.specs.Rows.{ReaderExamples, NestedExamples, ResourceExamples, StartExamples, EnteredExamples, BorrowExamples, InsideExamples}

pub reader_examples : ReaderExamples
unfolding ◌>>◌ gives traps spent takes_step with_more shows on below core store_of finds_room deep_enough reacts loses stays runs_calls
reader_examples = record { once = refl; fewer = refl }

pub nested_examples : NestedExamples
unfolding ◌>>◌ gives traps spent takes_step with_more shows on below core store_of finds_room deep_enough reacts loses stays runs_calls
nested_examples = record { handed_on = refl; fewer = refl }

pub resource_examples : ResourceExamples
unfolding ◌>>◌ gives traps spent takes_step with_more shows on below core store_of finds_room deep_enough reacts loses stays runs_calls
resource_examples = record { dropped = refl }

pub start_examples : StartExamples
unfolding ◌>>◌ gives traps spent takes_step with_more shows on below core store_of finds_room deep_enough reacts loses stays runs_calls
start_examples = record { started = refl; not_yet = refl; called_then = refl }

pub entered_examples : EnteredExamples
unfolding ◌>>◌ gives traps spent takes_step with_more shows on below core store_of finds_room deep_enough reacts loses stays runs_calls
entered_examples = record { called_back = refl; last_step = refl; fewer = refl }

pub borrow_examples : BorrowExamples
unfolding ◌>>◌ gives traps spent takes_step with_more shows on below core store_of finds_room deep_enough reacts loses stays runs_calls
borrow_examples = record { dropped = refl; kept = refl }

-- a resource, `resource.new`, two core instances and a core function; the lifted function, and both exports
pub inside_examples : InsideExamples
inside_examples = record {
  stays = ((tt, tt), ((tt, tt), ((tt, tt), (tt, ((tt, tt), ((tt, tt), ((tt, (tt, tt)), ((tt, tt), ((tt, (tt, tt)), tt)))))))));
  knows = (refl, (inl refl, (tt, (tt, (tt, ((inl refl, tt), (inl refl, (tt, tt))))))));
}
