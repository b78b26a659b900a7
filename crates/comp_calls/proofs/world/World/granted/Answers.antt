use Rattle.std.proofs.Common.{sym, ◌∙◌}
use Rattle.comp_calls.specs.Moments.{at}
use Rattle.call_moments.proofs.Granting.{granting_none, granting_leads}
use Rattle.comp_calls.proofs.world.World.granted.Goals as goal

pub returns-in_err-place-clause-leads : goal.returns-in_err-place-clause-leads
returns-in_err-place-clause-leads g c =
    granting_none g.H.Host.step c.args.storing (at g.H.Host.kept c.args.self.now) (at g.H.Host.kept c.args.self.now) c.args.results.now c.from_residual.result (sym c.only_word.ensures ∙ c.in_err-place.ensures.ok_part)

pub returns-clause-leads : goal.returns-clause-leads
returns-clause-leads g c =
    granting_leads g.H.Host.step c.args.storing (at g.H.Host.kept c.args.self.now) (at g.H.Host.kept c.store.new.self) c.args.results.now c.store.result c.in_ok-place.place (sym c.only_word.ensures ∙ c.in_ok-place.ensures.ok_part) c.store.ensures.leads
