use Rattle.std.proofs.Common.{◌∙◌, sym}
use Rattle.virt_base.proofs.LebLaws.{signed_back, signed_went}
use Rattle.virt_base.proofs.leb.signed_or_back.Goals as goal

pub returns-then-is_err-clause-rule : goal.returns-then-is_err-clause-rule
returns-then-is_err-clause-rule c = signed_back c.args.half c.args.c.now c.signed-read.new.c c.signed-read.result (sym c.is_err.ensures.value ∙ c.if-is_err.true) c.signed-read.ensures.value

pub returns-else-is_err-clause-rule : goal.returns-else-is_err-clause-rule
returns-else-is_err-clause-rule c = signed_went c.args.half c.args.c.now c.signed-read.new.c c.signed-read.result (sym c.is_err.ensures.value ∙ c.if-is_err.false) c.signed-read.ensures.value
