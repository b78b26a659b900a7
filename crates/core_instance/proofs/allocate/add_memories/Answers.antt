use Rattle.std.proofs.Common.{length, ap, ◌∙◌}
use Rattle.core_memory.specs.Linear.{fresh}
use Rattle.core_instance.proofs.GrowLemmas.{memories_more, grown_length}
use Rattle.core_instance.proofs.RangeLemmas.{places_more}
use Rattle.core_instance.proofs.allocate.add_memories.Goals as goal

pub loop-limits-preserved : goal.loop-limits-preserved
loop-limits-preserved c =
    let i = c.loop-limits.limits-index in
    let s = c.args.store.now in
    let count = grown_length (λ l. fresh l.min l.max) s.memories c.args.memories.now i _ c.loop-limits-test.true (ap (λ s. s.memories) c.loop-limits.invariant.0) in (
      memories_more (λ l. fresh l.min l.max) s c.loop-limits.store _ c.args.memories.now i _ c.loop-limits-test.true c.loop-limits.invariant.0 c.in_ok-at.ensures.2,
      places_more c.args.places.now c.loop-limits.places _ (length s.memories) i c.in_ok-at.at c.loop-limits.invariant.1 (c.in_ok-at.ensures.0 ∙ count) c.in_ok-push.ensures.ok,
    )
