use Rattle.std.proofs.Common.{◌≡◌, take}
use Rattle.core_instance.proofs.copies.share_funcs.Given as goal

abbrev pub invariant-loop-func : goal.invariant-loop-func
invariant-loop-func l = l.list.items ≡ take l.func-index l.types
