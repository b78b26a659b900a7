use Rattle.routine_rows.proofs.Making.{memory_first}
use Rattle.routine_rows.proofs.world.first_memory.Goals as goal

pub returns-in-Memory : goal.returns-in-Memory
returns-in-Memory c = memory_first c.args.store.now c.as_slice.result.now c.args.instance.now.exports c.first-item.result c.in-Memory.at c.requires c.as_slice.ensures c.in-len1-up.len_at_least c.first-item.is c.in-Memory.is
