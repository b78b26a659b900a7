use Rattle.std.proofs.Common.{◌≡◌}
use Rattle.reference_step.specs.Nodes.{next_file}
use Rattle.ref_scratch.proofs.entries.next_number.Given as goal

abbrev pub invariant-loop-number : goal.invariant-loop-number
invariant-loop-number l = next_file l.folder l.from ≡ next_file l.folder l.number
