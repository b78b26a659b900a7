use Rattle.std.proofs.Common.{◌<◌, length}
use Rattle.typed_rows.proofs.plans.run.Given as goal

abbrev pub invariant-loop-answer : goal.invariant-loop-answer
invariant-loop-answer l =
    (goal.iterator-loop-answer).can_next l.answer-iterator ×
    (goal.iterator-loop-answer).is_finite l.answer-iterator ×
    0 < length l.store.memories
