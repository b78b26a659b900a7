use Rattle.std.proofs.Common.{◌+◌, drop}
use Rattle.instance_state.proofs.Exchanges.{lifting_starts, lifts_next, next_handle}
use Rattle.instance_state.proofs.handles.Handles.lift.Goals as goal

pub loop-handle-init : goal.loop-handle-init
loop-handle-init c = record { lifting = lifting_starts _ _ _; lent = λ h. h }

pub loop-handle-preserved : goal.loop-handle-preserved
loop-handle-preserved c = record {
  lifting =
      lifts_next _ (drop c.loop-handle.handle-index c.args.handles.now) (drop (c.loop-handle.handle-index + 1) c.args.handles.now) _ _ _ _ _ _ _ _ _ (next_handle c.args.handles.now c.loop-handle.handle-index _ c.loop-handle-test.true)
      c.loop-handle.invariant.lifting c.in_ok-lift_one.ensures.lifts;
  lent = λ h. c.in_ok-lift_one.ensures.lent (c.loop-handle.invariant.lent h);
}
