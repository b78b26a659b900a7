use Rattle.std.proofs.Common.{◌≡◌, take}
use Rattle.comp_linking.proofs.arguments.copy_core_exports.Given as goal

abbrev pub invariant-loop-export : goal.invariant-loop-export
invariant-loop-export l = l.list.items ≡ take l.export-index l.exports
