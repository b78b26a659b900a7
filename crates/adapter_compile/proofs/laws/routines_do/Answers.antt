use Rattle.adapter_compile.proofs.Law.{do_so}
use Rattle.adapter_compile.proofs.laws.routines_do.Goals as goal

pub returns : goal.returns
returns c = do_so
