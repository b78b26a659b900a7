use Rattle.std.proofs.Common.{◌-◌, ◌/◌}
use Rattle.core_memory.proofs.Marks.{Making}
use Rattle.core_memory.proofs.bulk.make_pages.Given as goal

abbrev pub invariant-loop-index : goal.invariant-loop-index
invariant-loop-index l = Making l.fn.pages.items l.pages.items (l.at / 65536) (l.index - l.at / 65536)
