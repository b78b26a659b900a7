use Rattle.std.proofs.Common.{◌≡◌, ◌≤◌, length, take}
use Rattle.core_body.specs.Machine.{pops}
use Rattle.core_body.specs.Stack.{level_of, below_of}
use Rattle.core_body.specs.Typing.{operands}
use Rattle.core_body.specs.Views.{context_of}
use Rattle.core_body.proofs.stack.Stack.take_each.Given as goal

abbrev pub invariant-loop-left : goal.invariant-loop-left
invariant-loop-left l = record {
  left : pops l.dead (level_of (context_of l.scope) l.self) (operands (take l.left l.types)) ≡ pops l.dead (level_of (context_of l.scope) l.fn.self) (operands l.types);
  within : l.left ≤ length l.types;
  outer : below_of l.self ≡ below_of l.fn.self;
  height : l.self.height ≡ l.fn.self.height;
}

abbrev pub decreases-loop-left : goal.decreases-loop-left
decreases-loop-left l = l.left
