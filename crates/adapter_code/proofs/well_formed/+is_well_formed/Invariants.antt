use Rattle.std.proofs.Common.{◌≡◌, ◌+◌, ◌*◌, drop}
use Rattle.adapter_code.specs.Code.{Stop, before, code_of}
use Rattle.adapter_code.specs.WellFormed.{IsWellFormed}
use Rattle.adapter_code.proofs.Codes.{size}
use Rattle.adapter_code.proofs.well_formed.+is_well_formed.Given as goal

abbrev pub invariant-list_is_fine-loop-statement : goal.invariant-list_is_fine-loop-statement
invariant-list_is_fine-loop-statement l = record {
  so_far : IsWellFormed l.widths l.initial.names.items (code_of (drop l.statement-index l.list)) → IsWellFormed l.widths l.initial.names.items (code_of l.list);
  same : l.names.items ≡ l.initial.names.items;
}

abbrev pub decreases-list_is_fine : goal.decreases-list_is_fine
decreases-list_is_fine l = 4 * size (code_of l.list.now) + 1

abbrev pub decreases-body_is_fine : goal.decreases-body_is_fine
decreases-body_is_fine l = 4 * size (code_of l.body.now) + 2

abbrev pub decreases-one_is_fine : goal.decreases-one_is_fine
decreases-one_is_fine l = 4 * size (before l.statement.now Stop)
