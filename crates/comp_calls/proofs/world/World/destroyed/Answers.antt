use Rattle.std.proofs.Common.{ap, sym, subst}
use Rattle.comp_worlds.specs.Locals.{exit}
use Rattle.comp_calls.specs.Moments.{at}
use Rattle.call_moments.specs.Functions.{IsChanged}
use Rattle.call_moments.proofs.Leaving.{exit_goes, own_leads, other_leads}
use Rattle.comp_calls.proofs.world.World.destroyed.Goals as goal
use Rattle.comp_calls.proofs.world.World.destroyed.Goals.{in-Own, in-Other+in_ok-exit-in-Other}

pub returns-in_err-exit-in-Other-clause-leads : goal.returns-in_err-exit-in-Other-clause-leads
returns-in_err-exit-in-Other-clause-leads g c = λ G waiting results w lt. absurd (exit_goes g.H.Host.step (at g.H.Host.kept c.args.self.now) (at g.H.Host.kept c.exit.new.self) c.args.number c.in_err-exit-in-Other.field-0.0 lt c.in_err-exit-in-Other.ensures.does)

pub returns-clause-leads : goal.returns-clause-leads
returns-clause-leads g c =
    elim c.match-visit.branch [
      | in-Own w ↦
          own_leads g.H.Host.step (at g.H.Host.kept c.args.self.now) (at g.H.Host.kept c.match-visit.self) (at g.H.Host.kept c.resume-2.new.self) c.args.number c.args.visit _ c.resume-2.result w.in-Own.is (ap (at g.H.Host.kept) w.self-is) c.empty.ensures
          c.resume-2.ensures.leads
      | in-Other+in_ok-exit-in-Other w ↦
          other_leads g.H.Host.step (at g.H.Host.kept c.args.self.now) (at g.H.Host.kept c.match-visit.self) (at g.H.Host.kept c.resume-2.new.self) c.args.number c.args.visit _ c.resume-2.result w.in-Other.is
          (subst (λ x. IsChanged exit c.args.number (at g.H.Host.kept c.args.self.now) (at g.H.Host.kept x)) (sym w.self-is) w.in_ok-exit-in-Other.ensures.does) c.empty.ensures c.resume-2.ensures.leads
    ]
