use Rattle.std.proofs.Common.{◌≡◌, take}
use Rattle.comp_linking.proofs.arguments.copy_core_args.Given as goal

abbrev pub invariant-loop-arg : goal.invariant-loop-arg
invariant-loop-arg l = l.list.items ≡ take l.arg-index l.args
