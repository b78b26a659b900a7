use Rattle.std.proofs.Common.{ap, ◌∙◌, sym, slice_get}
use Rattle.core_body.specs.Runs.{run_at}
use Rattle.core_body.proofs.RunLemmas.{declared-at}
use Rattle.core_body.proofs.locals.Locals.get.Goals as goal

pub returns : goal.returns
returns c =
    c.find.ensures ∙ ap (run_at c.args.n) c.deref.ensures.value
    ∙ sym (declared-at c.self.inside.params.now c.self.inside.ends.items c.args.n c.self.invariant c.if-n-self.false) ∙ ap (λ l. slice_get l c.args.n) c.self.view_is
