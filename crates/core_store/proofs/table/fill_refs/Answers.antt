use Rattle.std.proofs.Common.{◌+◌, ◌-◌, ◌∙◌, arith, refl, length-set}
use Rattle.core_store.proofs.References.{fill_none, fill_more}
use Rattle.core_store.proofs.table.fill_refs.Goals as goal

pub loop-index-init : goal.loop-index-init
loop-index-init c = record { items = fill_none _ _ (c.args.start - c.args.start) _ (omega arith); len = refl }

pub loop-index-preserved : goal.loop-index-preserved
loop-index-preserved c = record {
  items = fill_more c.args.refs.now.items c.loop-index.refs.items c.args.start (c.loop-index.index - c.args.start) (c.loop-index.index + 1 - c.args.start) c.loop-index.index c.args.value (omega arith) (omega arith) (omega arith) c.loop-index.invariant.items;
  len = length-set c.loop-index.refs.items c.loop-index.index c.args.value ∙ c.loop-index.invariant.len;
}
