use Rattle.std.proofs.Common.{◌<◌, length}
use Rattle.std.specs.Prelude.{reverse}
use Rattle.abi_store.specs.Works.{Took, works_lowered}
use Rattle.abi_store.specs.Weights.{works_turns}
use Rattle.abi_store.proofs.storing.run.Given as goal

abbrev pub invariant-loop-work : goal.invariant-loop-work
invariant-loop-work l = record {
  took : Took l.initial.store l.store l.memory (works_lowered (reverse l.initial.works.items)) (works_lowered (reverse l.works.items));
  memory : l.memory < length l.store.memories;
}

abbrev pub decreases-loop-work : goal.decreases-loop-work
decreases-loop-work l = works_turns l.works.items
