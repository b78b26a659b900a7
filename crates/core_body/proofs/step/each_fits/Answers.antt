use Rattle.std.proofs.Common.{◌∙◌, ap, sym, refl, ◌&&◌}
use Rattle.core_body.specs.Fitting.{row, fits_first}
use Rattle.core_body.specs.Levels.{labels_at}
use Rattle.core_body.specs.Views.{context_of}
use Rattle.core_body.proofs.TableLemmas.{each_takes-stop, each_takes-goes, each_takes-done}
use Rattle.core_body.proofs.FittingLemmas.{fit-none}
use Rattle.core_body.proofs.step.each_fits.Goals as goal

pub loop-n-init : goal.loop-n-init
loop-n-init c =
    let d = context_of c.args.scope.now in
    let stack = c.args.p.now.stack in
    record {
      known = fit-none c.args.scope.now.spaces.types.now c.numbers-numbers.result.now (fits_first d stack c.args.first) (row d stack c.args.first) c.new-fitting.result c.new-fitting.ensures.empty;
      each = refl;
    }

pub returns-then-not-branch : goal.returns-then-not-branch
returns-then-not-branch c =
    let d = context_of c.args.scope.now in
    let p = c.args.p.now in
    let os = row d p.stack c.args.first in
    let fits = fits_first d p.stack c.args.first in
    each_takes-stop (labels_at d p) os c.args.labels.now c.loop-n.n-index fits c.loop-n-test.true (ap (λ b. fits && b) (sym c.if-not-branch.true) ∙ c.in_ok-label_fits.ensures.fits) ∙ c.loop-n.invariant.each

pub loop-n-preserved : goal.loop-n-preserved
loop-n-preserved c =
    let d = context_of c.args.scope.now in
    let p = c.args.p.now in
    let os = row d p.stack c.args.first in
    let fits = fits_first d p.stack c.args.first in
    record {
      known = c.in_ok-label_fits.ensures.known;
      each = each_takes-goes (labels_at d p) os c.args.labels.now c.loop-n.n-index fits c.loop-n-test.true (ap (λ b. fits && b) (sym c.if-not-branch.false) ∙ c.in_ok-label_fits.ensures.fits) ∙ c.loop-n.invariant.each;
    }

pub returns : goal.returns
returns c =
    let d = context_of c.args.scope.now in
    let p = c.args.p.now in
    let os = row d p.stack c.args.first in
    ap (λ b. fits_first d p.stack c.args.first && b) (sym (each_takes-done (labels_at d p) os c.args.labels.now c.loop-n.n-index c.loop-n-test.false)) ∙ c.loop-n.invariant.each
