use Rattle.std.proofs.Common.{◌≡◌, ℕ, ◌-◌, ◌<◌, drop, slice_get}
use Rattle.wasi_listed.specs.declared.TheConstants.{COUNTS}
use Rattle.wasi_listed.specs.Listed.{functions_from}
use Rattle.wasi_listed.proofs.PlaceLemmas.{total}
use Rattle.wasi_listed.proofs.place_of.Given as goal

abbrev pub invariant-loop-interface : goal.invariant-loop-interface
invariant-loop-interface l = record {
  same : slice_get (functions_from 27 0) l.number ≡ slice_get (functions_from (27 - l.interface) l.interface) l.place;
  left : l.place < total (drop l.interface COUNTS);
}
