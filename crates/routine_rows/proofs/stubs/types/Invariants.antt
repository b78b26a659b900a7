use Rattle.std.specs.List.{All}
use Rattle.adapter_stubs.specs.Widths.{IsFlat}
use Rattle.routine_rows.proofs.stubs.types.Given as goal

abbrev pub invariant-loop-word : goal.invariant-loop-word
invariant-loop-word l = All IsFlat l.types
