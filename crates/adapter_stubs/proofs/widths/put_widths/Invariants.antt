use Rattle.std.proofs.Common.{◌≡◌, ◌++◌, map, take}
use Rattle.adapter_stubs.specs.Widths.{width_of}
use Rattle.adapter_stubs.proofs.widths.put_widths.Given as goal

abbrev pub invariant-loop-ty : goal.invariant-loop-ty
invariant-loop-ty l = record {
  so_far : l.widths.items ≡ l.initial.widths.items ++ map width_of (take l.ty-index l.types);
}
