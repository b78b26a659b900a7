use Rattle.call_moments.proofs.Whole.{never_shrink}
use Rattle.call_moments.proofs.memories.memories_never_shrink.Goals as goal

pub returns : goal.returns
returns c = never_shrink
