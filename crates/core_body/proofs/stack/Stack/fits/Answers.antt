use Rattle.std.proofs.Common.{ap, ◌∙◌, sym, length}
use Rattle.core_body.specs.Sources.{listed}
use Rattle.core_body.specs.Machine.{under}
use Rattle.core_body.specs.Stack.{level_of}
use Rattle.core_body.specs.Views.{context_of}
use Rattle.core_body.proofs.TableLemmas.{fits-lengths}
use Rattle.core_body.proofs.PlaceLemmas.{fits-some, fits-nothing}
use Rattle.core_body.proofs.stack.Stack.fits.Goals as goal

pub returns-then-some-due : goal.returns-then-some-due
returns-then-some-due c =
    let d = context_of c.args.scope.now in
    sym (fits-lengths (listed d c.args.first) (listed d c.args.label) (under (level_of d c.args.self.now)) (λ e. c.if-some-due.true (ap length c.listed-some.ensures ∙ e ∙ sym (ap length c.listed-due.ensures))))

pub returns-in-Some : goal.returns-in-Some
returns-in-Some c =
    let d = context_of c.args.scope.now in
    c.meets.ensures ∙ fits-some (listed d c.args.first) (listed d c.args.label) (level_of d c.args.self.now) _ c.in-Some.top.operand
    (sym (ap length c.listed-some.ensures) ∙ c.if-some-due.false ∙ ap length c.listed-due.ensures) (sym c.place.ensures.rest ∙ c.in-Some.ensures.found)

pub returns-in-None : goal.returns-in-None
returns-in-None c =
    let d = context_of c.args.scope.now in
    fits-nothing (listed d c.args.first) (listed d c.args.label) (level_of d c.args.self.now)
    (sym (ap length c.listed-some.ensures) ∙ c.if-some-due.false ∙ ap length c.listed-due.ensures) (sym c.place.ensures.rest ∙ c.in-None.ensures.found)
