use Rattle.std.proofs.Common.{◌≡◌, map, take}
use Rattle.core_body.specs.Views.{context_at}
use Rattle.core_validate.specs.Typed.{core_export}
use Rattle.core_validate.proofs.types.export_types.Given as goal

abbrev pub invariant-loop-export : goal.invariant-loop-export
invariant-loop-export l = record {
  list : l.list.items ≡ map (core_export (context_at l.spaces) l.memories) (take l.export-index l.exports);
  types : l.types ≡ l.spaces.types.now;
}
