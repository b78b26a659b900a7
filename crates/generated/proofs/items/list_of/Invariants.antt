use Rattle.std.proofs.Common.{◌≡◌, ◌++◌}
use Rattle.generated.specs.Bytes.{each, number}
use Rattle.generated.specs.Generated.{item_of}
use Rattle.generated.proofs.items.list_of.Given as goal

abbrev pub invariant-loop-i : goal.invariant-loop-i
invariant-loop-i l = l.out.items ≡ number l.functions ++ each (item_of l.part) l.i
