use Rattle.std.proofs.Common.{arith}
use Rattle.comp_interp.proofs.Exported.{no_hash, some_hash}
use Rattle.comp_interp.proofs.exports.cut.Goals as goal

pub returns-in-None : goal.returns-in-None
returns-in-None c = no_hash c.args.name.now c.split_once.result (c.split_once.ensures.byte (omega arith) (λ w o f. f)) c.in-None.is

pub returns-in-Some : goal.returns-in-Some
returns-in-Some c = some_hash c.args.name.now c.split_once.result _ (c.split_once.ensures.byte (omega arith) (λ w o f. f)) c.in-Some.is
