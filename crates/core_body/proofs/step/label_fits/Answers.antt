use Rattle.std.proofs.Common.{◌≡◌, ◌∙◌, sym, ap, subst, ℕ, true}
use Rattle.std.specs.BTreeSet.{Updates}
use Rattle.std.specs.Ordering.{nat_cmp}
use Rattle.core_body.specs.Fitting.{row, fits_first}
use Rattle.core_body.specs.Sources.{listed, spelled}
use Rattle.core_body.specs.Typing.{operands, label_at}
use Rattle.core_body.specs.Machine.{all_below}
use Rattle.core_body.specs.Levels.{labels_at}
use Rattle.core_body.specs.Numbers.{number_in}
use Rattle.core_body.specs.Views.{context_of}
use Rattle.core_body.proofs.TableLemmas.{label-same}
use Rattle.core_body.proofs.FittingLemmas.{fit-more}
use Rattle.core_body.proofs.step.label_fits.Goals as goal

pub returns-then-number-number_of-clause-fits : goal.returns-then-number-number_of-clause-fits
returns-then-number-number_of-clause-fits c =
    let d = context_of c.args.scope.now in
    let first = c.args.first in
    let label = c.in-Some.label in
    let numbers : number_in c.args.numbers.now first ≡ number_in c.args.numbers.now label = sym c.number_of.ensures ∙ sym c.if-number-number_of.true ∙ c.number_of-number.ensures in
    let lists : listed d first ≡ listed d label = (c.requires.apart first label).0 numbers in
    label-same (spelled d first) (spelled d label) (row d c.args.p.now.stack first) (label_at (labels_at d c.args.p.now) c.args.n) (sym c.in-Some.ensures) (ap operands lists)

pub returns-clause-known : goal.returns-clause-known
returns-clause-known c =
    let d = context_of c.args.scope.now in
    let stack = c.args.p.now.stack in
    let label = c.in-Some.label in
    let numbers = c.args.numbers.now in
    let old = c.args.fitting.now in
    let new = c.insert.new.self in
    let fits : all_below (row d stack c.args.first) (spelled d label) ≡ true = sym c.fits.ensures ∙ c.if-not-fits.false in
    let updates : Updates nat_cmp old new (number_in numbers label) true = subst (λ (k : ℕ). Updates nat_cmp old new k true) c.number_of-number.ensures c.in_ok-insert.ensures.updates in
    fit-more c.args.scope.now.spaces.types.now numbers (fits_first d stack c.args.first) (row d stack c.args.first) old new label c.requires.apart c.requires.known updates fits
