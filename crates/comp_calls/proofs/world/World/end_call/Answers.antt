use Rattle.std.proofs.Common.{◌≡◌, ◌∙◌, List, length, Some, Err, refl, sym, ap, subst}
use Rattle.std.specs.Prelude.{slice_get}
use Rattle.std.proofs.lemmas.Option.{slice_get_read}
use Rattle.comp_worlds.specs.Passing.{unlend_all}
use Rattle.instance_state.specs.declared.loan.Loan.{Loan}
use Rattle.instance_state.specs.Loans.{indexes_of, AreLent}
use Rattle.call_moments.specs.declared.end.Stop.TheVariants as stops
use Rattle.comp_calls.specs.Moments.{at}
use Rattle.comp_calls.proofs.NoResult.{not_lent, left_without}
use Rattle.call_moments.proofs.Following.{with_instance}
use Rattle.call_moments.proofs.Lowered.{result_there}
use Rattle.comp_calls.proofs.world.World.end_call.Goals as goal

pub returns-in_default-clause-leads : goal.returns-in_default-clause-leads
returns-in_default-clause-leads g c = λ depth value.
    result_there g.H.Host.step (at g.H.Host.kept c.args.self.now) c.args.number c.args.call c.args.due depth value c.in_default.ensures.item.3 (Err stops.Trapped) (at g.H.Host.kept c.args.self.now)

pub returns-in_err-end_loans-clause-leads : goal.returns-in_err-end_loans-clause-leads
returns-in_err-end_loans-clause-leads g c = λ depth value.
    let old = at g.H.Host.kept c.args.self.now in
    let k = c.args.number in
    let i = c.in-Some.instance.now in
    let found : slice_get old.instances k ≡ Some i = slice_get_read old.instances (length old.instances) k i refl c.in-Some.ensures.item.3.0 c.in-Some.ensures.value in
    not_lent g.H.Host.step old k c.args.call c.args.due depth value i found (λ lent. c.in_err-end_loans.ensures.traps (subst (λ (ls : List Loan). AreLent ls i.handles) (sym c.deref.ensures.value) lent))
    (with_instance old k (record i { handles = c.end_loans.new.self })) c.from_residual.result refl c.from_residual.ensures.1

pub returns-clause-leads : goal.returns-clause-leads
returns-clause-leads g c = λ depth value.
    let old = at g.H.Host.kept c.args.self.now in
    let k = c.args.number in
    let i = c.in-Some.instance.now in
    let found : slice_get old.instances k ≡ Some i = slice_get_read old.instances (length old.instances) k i refl c.in-Some.ensures.item.3.0 c.in-Some.ensures.value in
    let ended : c.end_loans.new.self ≡ unlend_all (indexes_of c.args.call.loans.items) i.handles =
    c.in_ok-end_loans.ensures.ends ∙ ap (λ (ls : List Loan). unlend_all (indexes_of ls) i.handles) c.deref.ensures.value in
    left_without g.H.Host.step old k c.args.call c.args.due depth value i found c.requires c.end_loans.new.self ended c.reopen.new.self c.reopen.ensures.done c.reopen.ensures.code c.empty.result c.empty.ensures
    (at g.H.Host.kept c.leave.new.self) c.leave.result c.leave.ensures.leads
