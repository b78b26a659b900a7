use Rattle.core_body.proofs.PromiseLemmas.{operands-found}
use Rattle.core_body.proofs.promise.operands_are_found.Goals as goal

pub returns : goal.returns
returns c = operands-found
