use Rattle.std.specs.Prelude.{reverse}
use Rattle.adapter_compile.proofs.code.put_plain.Goals as goal

pub returns-in-Move : goal.returns-in-Move
returns-in-Move c = rw c.in-Move.is (c.put_move.ensures c.args.calls.now (reverse c.args.labels.now))

pub returns-in-Load : goal.returns-in-Load
returns-in-Load c = rw c.in-Load.is (c.put_load.ensures c.args.calls.now (reverse c.args.labels.now))

pub returns-in-Store : goal.returns-in-Store
returns-in-Store c = rw c.in-Store.is (c.put_store.ensures c.args.calls.now (reverse c.args.labels.now))
