use Rattle.std.proofs.Common.{◌≡◌, ◌≤◌, length}
use Rattle.core_body.specs.Stack.{down_from}
use Rattle.core_body.specs.Views.{context_of}
use Rattle.core_body.proofs.stack.Stack.first_below.Given as goal

abbrev pub invariant-loop-at : goal.invariant-loop-at
invariant-loop-at l = record {
  rest : down_from (context_of l.scope) l.self l.at ≡ down_from (context_of l.scope) l.self l.from;
  low : l.self.height ≤ l.at;
  high : l.at ≤ length l.self.pieces.items;
}

abbrev pub decreases-loop-at : goal.decreases-loop-at
decreases-loop-at l = l.at
