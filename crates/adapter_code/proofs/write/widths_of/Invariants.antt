use Rattle.std.proofs.Common.{◌≡◌, map, take}
use Rattle.adapter_code.specs.Run.{local_width}
use Rattle.adapter_code.proofs.write.widths_of.Given as goal

abbrev pub invariant-loop-local : goal.invariant-loop-local
invariant-loop-local l = record {
  so_far : l.widths.items ≡ map local_width (take l.local-index l.locals);
}
