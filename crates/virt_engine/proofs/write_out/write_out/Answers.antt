use Rattle.virt_engine.proofs.Adding.{writes_of, writes_broken}
use Rattle.virt_engine.proofs.write_out.write_out.Goals as goal

pub returns-in_err-create : goal.returns-in_err-create
returns-in_err-create g c = writes_broken _ _ _ _ _ _ c.from_residual.ensures.0 c.in_err-create.ensures

pub returns : goal.returns
returns g c = writes_of _ _ _ _ _ _ c.in_ok-create.ensures c.add_parts.ensures
