use Rattle.std.proofs.Common.{◌+◌, ◌-◌, refl, arith}
use Rattle.abi_store.proofs.Runs.{push_more}
use Rattle.abi_store.proofs.number.push_number.Goals as goal

pub loop-done-preserved : goal.loop-done-preserved
loop-done-preserved c =
    push_more _ c.loop-done.run.items c.push.new.self.items (c.args.width - c.loop-done._done) (c.args.width - (c.loop-done._done + 1)) c.loop-done.rest _ c.loop-done.invariant (omega arith) refl c.in_ok-push.ensures.items
