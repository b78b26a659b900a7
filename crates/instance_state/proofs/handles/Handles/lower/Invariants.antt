use Rattle.std.proofs.Common.{drop, map}
use Rattle.comp_worlds.specs.Passing.{add_handles}
use Rattle.instance_state.specs.Owning.{plain_for}
use Rattle.instance_state.specs.Exchanged.{passing}
use Rattle.instance_state.proofs.Exchanges.{Lowering}
use Rattle.instance_state.proofs.handles.Handles.lower.Given as goal

abbrev pub invariant-loop-handle : goal.invariant-loop-handle
invariant-loop-handle l =
    Lowering (add_handles (plain_for l.owners l.into) (map passing l.fn.handles) l.fn.self) (add_handles (plain_for l.owners l.into) (map passing (drop l.handle-index l.handles)) l.self) l.fn.indexes.items l.indexes.items
