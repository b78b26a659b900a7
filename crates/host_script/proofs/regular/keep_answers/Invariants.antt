use Rattle.std.proofs.Common.{length}
use Rattle.host_script.specs.Taken.{Taken, IsAnswer}
use Rattle.host_script.proofs.regular.keep_answers.Given as goal

abbrev pub invariant-answers : goal.invariant-answers
invariant-answers l = Taken IsAnswer l.answers l.initial.reader l.reader

abbrev pub decreases-answers : goal.decreases-answers
decreases-answers l = length l.reader
