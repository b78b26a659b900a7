use Rattle.std.proofs.Common.{◌≡◌, Bool}
use Rattle.core_body.specs.Machine.{pops}
use Rattle.core_body.specs.Pieces.{run_of}
use Rattle.core_body.specs.Stack.{rest_of, Ready}
use Rattle.core_body.specs.Views.{context_of}
use Rattle.core_body.proofs.stack.Stack.descend.Given as goal

abbrev pub invariant-loop-met : goal.invariant-loop-met
invariant-loop-met l = record {
  ready : Ready (context_of l.scope) l.self l.at l.met;
  same : (dead : Bool) → pops dead (rest_of (context_of l.scope) l.self (record { at = l.at; part = l.met.part })) (run_of (context_of l.scope) l.met.due)
      ≡ pops dead (rest_of (context_of l.scope) l.self (record { at = l.from; part = l.fn.first.part })) (run_of (context_of l.scope) l.fn.first.due);
}

abbrev pub decreases-loop-met : goal.decreases-loop-met
decreases-loop-met l = l.at
