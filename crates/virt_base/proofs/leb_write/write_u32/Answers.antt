use Rattle.std.proofs.Common.{arith}
use Rattle.virt_base.proofs.LebLaws.{u32_shortest}
use Rattle.virt_base.proofs.leb_write.write_u32.Goals as goal

pub returns-in-Ok-clause-shortest : goal.returns-in-Ok-clause-shortest
returns-in-Ok-clause-shortest c = u32_shortest c.args.value (omega arith)

pub returns-in-Err-clause-shortest : goal.returns-in-Err-clause-shortest
returns-in-Err-clause-shortest c = u32_shortest c.args.value (omega arith)
