use Rattle.std.proofs.Common.{◌≡◌, ◌+◌, ◌==◌, [], length, map, take}
use Rattle.core_body.specs.Views.{context_at}
use Rattle.core_validate.specs.Faults.{first_fault}
use Rattle.core_validate.specs.Gather.{with_earlier}
use Rattle.core_validate.specs.Items.{AMemory}
use Rattle.core_validate.proofs.FirstLemmas.{rest}
use Rattle.core_validate.proofs.items.memories_fault.Given as goal

abbrev pub invariant-loop-limits : goal.invariant-loop-limits
invariant-loop-limits l = record {
  first : l.first ≡ ((l.imported + length (take l.limits-index l.memories)) == 0);
  left : first_fault (context_at l.spaces) (rest (context_at l.spaces) (λ before x. AMemory (l.imported + length before) x) l.memories l.limits-index)
      ≡ first_fault (context_at l.spaces) (with_earlier (λ before x. AMemory (l.imported + length before) x) [] l.memories);
}
