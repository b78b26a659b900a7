use Rattle.component_judge.proofs.Counting.{backwards, past_end}
use Rattle.component_judge.proofs.whole.code_in.Goals as goal

pub returns-then-to-from : goal.returns-then-to-from
returns-then-to-from c = backwards c.args.span c.args.source.now c.if-to-from.true

pub returns-then-source-to : goal.returns-then-source-to
returns-then-source-to c = past_end c.args.span c.args.source.now c.if-to-from.false c.if-source-to.true
