use Rattle.std.proofs.Common.{◌≡◌, ◌+◌, ◌==◌, [], length, map, take}
use Rattle.core_body.specs.Views.{context_at}
use Rattle.core_validate.specs.Faults.{first_fault}
use Rattle.core_validate.specs.Gather.{with_earlier}
use Rattle.core_validate.specs.Items.{AnExport, export_items}
use Rattle.core_validate.specs.Seen.{Knows}
use Rattle.core_validate.proofs.FirstLemmas.{rest}
use Rattle.core_validate.proofs.items.exports_fault.Given as goal

abbrev pub invariant-loop-export : goal.invariant-loop-export
invariant-loop-export l = record {
  seen : Knows l.seen (map (λ x. x.name) (take l.export-index l.exports));
  left : first_fault (context_at l.spaces) (rest (context_at l.spaces) (λ before e. AnExport (map (λ x. x.name) before) e) l.exports l.export-index)
      ≡ first_fault (context_at l.spaces) (export_items l.exports);
}
