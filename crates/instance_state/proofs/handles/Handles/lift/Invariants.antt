use Rattle.std.proofs.Common.{All, drop}
use Rattle.comp_worlds.specs.Passing.{named_in, lift_handles}
use Rattle.value_handles.specs.Shown.{shown}
use Rattle.instance_state.specs.Loans.{indexes_of, IsLentAs}
use Rattle.instance_state.proofs.Exchanges.{Lifting}
use Rattle.instance_state.proofs.handles.Handles.lift.Given as goal

abbrev pub invariant-loop-handle : goal.invariant-loop-handle
invariant-loop-handle l = record {
  lifting : Lifting (lift_handles (named_in (shown l.fn.handles)) l.fn.self) (lift_handles (named_in (shown (drop l.handle-index l.handles))) l.self) l.fn.reps.items l.reps.items (indexes_of l.fn.loans.items) (indexes_of l.loans.items);
  lent : All (IsLentAs l.fn.self) l.fn.loans.items → All (IsLentAs l.self) l.loans.items;
}
