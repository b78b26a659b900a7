use Rattle.std.proofs.Common.{length, ap, ◌∙◌}
use Rattle.core_store.specs.Table.{nulls}
use Rattle.core_instance.proofs.GrowLemmas.{tables_more, grown_length}
use Rattle.core_instance.proofs.RangeLemmas.{places_more}
use Rattle.core_instance.proofs.allocate.add_tables.Goals as goal

pub loop-table-preserved : goal.loop-table-preserved
loop-table-preserved c =
    let i = c.loop-table.table-index in
    let s = c.args.store.now in
    let count = grown_length (λ t. nulls t.limits.min t.limits.max) s.tables c.args.tables.now i _ c.loop-table-test.true (ap (λ s. s.tables) c.loop-table.invariant.0) in (
      tables_more (λ t. nulls t.limits.min t.limits.max) s c.loop-table.store _ c.args.tables.now i _ c.loop-table-test.true c.loop-table.invariant.0 c.in_ok-at.ensures.2,
      places_more c.args.places.now c.loop-table.places _ (length s.tables) i c.in_ok-at.at c.loop-table.invariant.1 (c.in_ok-at.ensures.0 ∙ count) c.in_ok-push.ensures.ok,
    )
