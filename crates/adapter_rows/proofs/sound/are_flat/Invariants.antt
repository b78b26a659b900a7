use Rattle.std.proofs.Common.{take}
use Rattle.std.specs.List.{All}
use Rattle.adapter_stubs.specs.Widths.{IsFlat}
use Rattle.adapter_rows.proofs.sound.are_flat.Given as goal

abbrev pub invariant-loop-ty : goal.invariant-loop-ty
invariant-loop-ty l = All IsFlat (take l.ty-index l.types)
