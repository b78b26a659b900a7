use Rattle.std.proofs.Common.{◌≡◌, ◌≤◌, ◌+◌, ◌++◌, ℕ, true, drop}
use Rattle.reference_step.specs.Atoms.{handles}
use Rattle.ref_rules.specs.Lives.{count_of_kind}
use Rattle.ref_guards.specs.RoomEntering.{are_kinds, count_kind}
use Rattle.ref_guards.specs.Noted.{shown_all}
use Rattle.ref_guards.specs.Entering.{with_handles, numbers_for}
use Rattle.ref_guards.proofs.entering.enter_all.Given as goal

abbrev pub invariant-loop-atom : goal.invariant-loop-atom
invariant-loop-atom l = record {
  kinds : are_kinds (handles (shown_all (drop l.atom-index l.noted))) ≡ true;
  room : (kind : ℕ) → count_kind kind (handles (shown_all (drop l.atom-index l.noted))) + count_of_kind kind l.live.handles ≤ l.live.slots;
  same : l.live ≡ record l.fn.live { handles = l.live.handles };
  entered : with_handles l.standing l.live.handles (handles (shown_all (drop l.atom-index l.noted))) ≡ with_handles l.standing l.fn.live.handles (handles (shown_all l.noted));
  numbers : l.numbers.items ++ numbers_for l.standing l.live.handles (handles (shown_all (drop l.atom-index l.noted))) ≡ numbers_for l.standing l.fn.live.handles (handles (shown_all l.noted));
}
