use Rattle.std.proofs.Common.{get_or, refl}
use Rattle.abi_store.proofs.Runs.{integers_more}
use Rattle.abi_store.proofs.forms.integers.Goals as goal

pub loop-byte-preserved : goal.loop-byte-preserved
loop-byte-preserved c =
    integers_more c.loop-byte.values.items c.push.new.self.items c.args.bytes.now c.loop-byte.byte-index (get_or c.args.bytes.now c.loop-byte.byte-index 0) _ c.loop-byte.invariant c.loop-byte-test.true refl c.integer.ensures c.in_ok-push.ensures.items
