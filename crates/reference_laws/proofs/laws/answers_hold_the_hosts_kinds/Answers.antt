use Rattle.reference_laws.proofs.Standing.{answers_hold_kinds}
use Rattle.reference_laws.proofs.laws.answers_hold_the_hosts_kinds.Goals as goal

pub returns : goal.returns
returns g c = λ r call may through v. answers_hold_kinds _ r call may through v
