use Rattle.ref_answers.specs.Versions.{AreFirst}
use Rattle.ref_answers.proofs.described.described.Given as goal

abbrev pub invariant-loop-number : goal.invariant-loop-number
invariant-loop-number l = AreFirst l.number l.interfaces.items
