use Rattle.comp_frames.proofs.Halts.{begins_within, keeps_within}
use Rattle.comp_frames.proofs.stores.plans_keep_their_room.Goals as goal

pub returns-clause-begins : goal.returns-clause-begins
returns-clause-begins c = begins_within

pub returns-clause-keeps : goal.returns-clause-keeps
returns-clause-keeps c = keeps_within
