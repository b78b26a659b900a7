use Rattle.std.proofs.Common.{arith}
use Rattle.ref_scratch.proofs.PartLemmas.{last_is, more_is, shorter_is}
use Rattle.ref_scratch.proofs.parts.cut.Goals as goal

pub returns-clause-last : goal.returns-clause-last
returns-clause-last c = last_is c.args.text.now c.split_once.result (c.split_once.ensures.byte (omega arith) (λ w o f. f))

pub returns-clause-more : goal.returns-clause-more
returns-clause-more c = more_is c.args.text.now c.split_once.result (c.split_once.ensures.byte (omega arith) (λ w o f. f))

pub returns-clause-shorter : goal.returns-clause-shorter
returns-clause-shorter c = shorter_is c.args.text.now c.split_once.result (c.split_once.ensures.byte (omega arith) (λ w o f. f))
