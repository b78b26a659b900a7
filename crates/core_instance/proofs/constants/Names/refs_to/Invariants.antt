use Rattle.std.proofs.Common.{◌≡◌, take}
use Rattle.core_instance.specs.Constants.{refs_to}
use Rattle.core_instance.proofs.constants.Names.refs_to.Given as goal

abbrev pub invariant-loop-index : goal.invariant-loop-index
invariant-loop-index l = l.list.items ≡ refs_to l.self (take l.index-index l.funcs)
