use Rattle.core_write.proofs.Writable.{writable_spelled}
use Rattle.core_write.proofs.laws.writable_modules_are_spelled.Goals as goal

pub returns : goal.returns
returns c = writable_spelled
