use Rattle.std.proofs.Common.{drop}
use Rattle.adapter_code.specs.WellFormed.{IsNamed}
use Rattle.adapter_code.proofs.well_formed.is_named.Given as goal

abbrev pub invariant-loop-other : goal.invariant-loop-other
invariant-loop-other l = record {
  so_far : IsNamed l.name l.names → IsNamed l.name (drop l.other-index l.names);
}
