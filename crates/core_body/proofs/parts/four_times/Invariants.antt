use Rattle.core_body.specs.Parts.{Follows}
use Rattle.core_body.proofs.parts.four_times.Given as goal

abbrev pub invariant-loop : goal.invariant-loop
invariant-loop l = Follows l.q.first.now l.q.second.now l.q.third.now l.q.fourth.now l.new.items
