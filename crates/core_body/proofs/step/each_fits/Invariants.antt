use Rattle.std.proofs.Common.{◌≡◌, drop, ◌&&◌}
use Rattle.core_body.specs.Machine.{each_takes}
use Rattle.core_body.specs.Levels.{labels_at}
use Rattle.core_body.specs.Fitting.{row, fits_first, AllFit}
use Rattle.core_body.specs.Views.{context_of}
use Rattle.core_body.proofs.step.each_fits.Given as goal

abbrev pub invariant-loop-n : goal.invariant-loop-n
invariant-loop-n l =
    let c = context_of l.scope in
    let os = row c l.p.stack l.first in
    let fits = fits_first c l.p.stack l.first in
    record {
      known : AllFit l.scope.spaces.types.now l.numbers fits os l.fitting;
      each : (fits && each_takes (labels_at c l.p) os (drop l.n-index l.labels)) ≡ (fits && each_takes (labels_at c l.p) os l.labels);
    }
