use Rattle.virt_engine.proofs.PairStatus.{one_plug_status}
use Rattle.virt_engine.proofs.StatusLaws.{one_status}
use Rattle.virt_engine.proofs.laws.one_status_is_due.Goals as goal

pub returns-clause-virt : goal.returns-clause-virt
returns-clause-virt c = one_status

pub returns-clause-plug : goal.returns-clause-plug
returns-clause-plug c = one_plug_status
