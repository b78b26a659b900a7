use Rattle.std.proofs.Common.{◌^◌}
use Rattle.virt_base.proofs.LebLaws.{unsigned_rule, unsigned_refused}
use Rattle.virt_base.proofs.leb.read_u32.Goals as goal

pub returns-in-Ok-clause-rule : goal.returns-in-Ok-clause-rule
returns-in-Ok-clause-rule c = unsigned_rule (2 ^ 32) c.args.c.now c.unsigned.new.c c.in-Ok.n c.in-Ok.ensures.value

pub returns-in-Err-clause-rule : goal.returns-in-Err-clause-rule
returns-in-Err-clause-rule c = unsigned_refused (2 ^ 32) c.args.c.now c.in-Err.fault c.in-Err.ensures.value
