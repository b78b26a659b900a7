use Rattle.std.proofs.Common.{◌≡◌, take}
use Rattle.core_instance.specs.Constants.{refs_from}
use Rattle.core_instance.proofs.constants.Names.refs_from.Given as goal

abbrev pub invariant-loop-code : goal.invariant-loop-code
invariant-loop-code l = l.list.items ≡ refs_from l.self (take l.code-index l.exprs)
