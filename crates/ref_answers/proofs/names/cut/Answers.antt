use Rattle.std.proofs.Common.{arith}
use Rattle.ref_answers.proofs.NameLaws.{some_parts, no_parts}
use Rattle.ref_answers.proofs.names.cut.Goals as goal

pub returns-in-Some : goal.returns-in-Some
returns-in-Some c = some_parts c.args.name.now c.split_once.result _ (c.split_once.ensures.byte (omega arith) (λ w o f. f)) c.in-Some.is

pub returns-in-None : goal.returns-in-None
returns-in-None c = no_parts c.args.name.now c.split_once.result (c.split_once.ensures.byte (omega arith) (λ w o f. f)) c.in-None.is
