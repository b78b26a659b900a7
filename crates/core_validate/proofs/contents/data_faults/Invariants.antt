use Rattle.std.proofs.Common.{◌≡◌, ◌+◌, ◌==◌, [], length, map, take}
use Rattle.core_body.specs.Views.{context_at}
use Rattle.core_validate.specs.Faults.{first_fault}
use Rattle.core_validate.specs.Gather.{with_earlier}
use Rattle.core_validate.specs.Items.{DataSegment, plain_items}
use Rattle.core_validate.proofs.FirstLemmas.{rest}
use Rattle.core_validate.proofs.contents.data_faults.Given as goal

abbrev pub invariant-loop-data : goal.invariant-loop-data
invariant-loop-data l = first_fault (context_at l.spaces) (rest (context_at l.spaces) (λ before x. DataSegment x) l.segments l.data-index) ≡ first_fault (context_at l.spaces) (plain_items DataSegment l.segments)
