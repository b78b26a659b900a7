use Rattle.std.proofs.Common.{◌≡◌, map, take}
use Rattle.adapter_compile.specs.Does.{local_of}
use Rattle.adapter_compile.proofs.body.declared.Given as goal

abbrev pub invariant-loop-width : goal.invariant-loop-width
invariant-loop-width l = record {
  so_far : l.runs.items ≡ map local_of (take l.width-index l.widths);
}
