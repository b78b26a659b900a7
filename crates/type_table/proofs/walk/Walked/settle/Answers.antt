use Rattle.type_table.specs.Walked.{Remembers}
use Rattle.type_table.proofs.WalkParts.{settled, forgot}
use Rattle.type_table.proofs.walk.Walked.settle.Goals as goal

pub returns-then-went_on-clause-kept : goal.returns-then-went_on-clause-kept
returns-then-went_on-clause-kept c = λ types h. settled c.args.walk c.went_on.result (Remembers types c.args.self.now) c.went_on.ensures.ok c.went_on.ensures.err c.if-went_on.true h

pub returns-clause-kept : goal.returns-clause-kept
returns-clause-kept c = λ types h. forgot types c.forget.new.self c.forget.ensures.met
