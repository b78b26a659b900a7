use Rattle.std.proofs.Common.{◌≡◌, ◌+◌, ◌==◌, [], length, map, take}
use Rattle.core_body.specs.Views.{context_at}
use Rattle.core_validate.specs.Faults.{first_fault}
use Rattle.core_validate.specs.Gather.{with_earlier}
use Rattle.core_validate.specs.Items.{AnImport, import_items}
use Rattle.core_validate.specs.Spaces.{imported_memories}
use Rattle.core_validate.proofs.FirstLemmas.{rest}
use Rattle.core_validate.proofs.items.imports_fault.Given as goal

abbrev pub invariant-loop-import : goal.invariant-loop-import
invariant-loop-import l = record {
  none : l.none ≡ (length (imported_memories (take l.import-index l.imports)) == 0);
  left : first_fault (context_at l.spaces) (rest (context_at l.spaces) (λ before i. AnImport (length (imported_memories before)) i.item) l.imports l.import-index)
      ≡ first_fault (context_at l.spaces) (import_items l.imports);
}
