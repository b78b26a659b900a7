use Rattle.std.proofs.Common.{◌≡◌, ◌∙◌, length, Some, Err, refl, ap, subst}
use Rattle.std.specs.Prelude.{slice_get}
use Rattle.std.proofs.lemmas.Option.{slice_get_read}
use Rattle.instance_state.specs.declared.instance.Instance.{Instance}
use Rattle.call_moments.specs.declared.end.Stop.TheVariants as stops
use Rattle.comp_calls.specs.Moments.{at}
use Rattle.call_moments.specs.Canonical.{AnswersCode}
use Rattle.call_moments.proofs.Following.{with_instance}
use Rattle.call_moments.proofs.ToPause.{pause_nowhere, pause_there, pause_done, pause_trapped, pause_deep, pause_spent, pause_asks}
use Rattle.comp_calls.proofs.world.World.go_to_pause.Goals as goal

pub returns-in_err-number-clause-leads : goal.returns-in_err-number-clause-leads
returns-in_err-number-clause-leads g c =
    let old = at g.H.Host.kept c.args.self.now in
    pause_nowhere g.H.Host.step old c.in_err-number.field-0.0 c.in_err-number.ensures c.from_residual.result old

pub returns-in_default-clause-leads : goal.returns-in_default-clause-leads
returns-in_default-clause-leads g c =
    let old = at g.H.Host.kept c.args.self.now in
    pause_there g.H.Host.step old c.in_ok-number.number c.in_ok-number.ensures c.in_default.ensures.item.3 (Err stops.Trapped) old

pub returns-in-Done-clause-leads : goal.returns-in-Done-clause-leads
returns-in-Done-clause-leads g c =
    let h = g.H.Host.step in
    let old = at g.H.Host.kept c.args.self.now in
    let k = c.in_ok-number.number in
    let i = c.in-Some.instance.now in
    let j : Instance = record { code = c.go_on.new.self; handles = i.handles; entered = i.entered; closed = i.closed } in
    let found : slice_get old.instances k ≡ Some i = slice_get_read old.instances (length old.instances) k i refl c.in-Some.ensures.item.3.0 c.in-Some.ensures.value in
    pause_done h old k c.in_ok-number.ensures i j found refl c.in_ok-results.field-0 c.go_on.new.budget c.in_ok-results.ensures.goes
    c.in-Done.results c.in-Done.is c.end_code.result (at g.H.Host.kept c.end_code.new.self) c.end_code.ensures.leads

pub returns-in-AtHost-clause-leads : goal.returns-in-AtHost-clause-leads
returns-in-AtHost-clause-leads g c =
    let h = g.H.Host.step in
    let old = at g.H.Host.kept c.args.self.now in
    let k = c.in_ok-number.number in
    let i = c.in-Some.instance.now in
    let j : Instance = record { code = c.go_on.new.self; handles = i.handles; entered = i.entered; closed = i.closed } in
    let found : slice_get old.instances k ≡ Some i = slice_get_read old.instances (length old.instances) k i refl c.in-Some.ensures.item.3.0 c.in-Some.ensures.value in
    let new = at g.H.Host.kept c.answer.new.self in
    let mid = record (with_instance old k j) { budget = c.go_on.new.budget } in
    let answers : AnswersCode h mid k c.in-AtHost.asked c.nesting-calls.result c.in-AtHost.args c.answer.result new = c.answer.ensures.leads in
    pause_asks h old k c.in_ok-number.ensures i j found refl c.in_ok-results.field-0 c.go_on.new.budget c.in_ok-results.ensures.goes
    c.in-AtHost.asked c.in-AtHost.args c.in-AtHost.is c.answer.result new
    (subst (λ n. AnswersCode h mid k c.in-AtHost.asked n c.in-AtHost.args c.answer.result new) (c.nesting-calls.ensures.value ∙ ap (λ s. s.nesting) c.store.ensures) answers)

pub returns-in-Trapped-clause-leads : goal.returns-in-Trapped-clause-leads
returns-in-Trapped-clause-leads g c =
    let h = g.H.Host.step in
    let old = at g.H.Host.kept c.args.self.now in
    let k = c.in_ok-number.number in
    let i = c.in-Some.instance.now in
    let j : Instance = record { code = c.go_on.new.self; handles = i.handles; entered = i.entered; closed = i.closed } in
    let found : slice_get old.instances k ≡ Some i = slice_get_read old.instances (length old.instances) k i refl c.in-Some.ensures.item.3.0 c.in-Some.ensures.value in
    pause_trapped h old k c.in_ok-number.ensures i j found refl c.in_ok-results.field-0 c.go_on.new.budget c.in_ok-results.ensures.goes
    c.in-Trapped.is (record (with_instance old k j) { budget = c.go_on.new.budget }) refl

pub returns-in-Spent-clause-leads : goal.returns-in-Spent-clause-leads
returns-in-Spent-clause-leads g c =
    let h = g.H.Host.step in
    let old = at g.H.Host.kept c.args.self.now in
    let k = c.in_ok-number.number in
    let i = c.in-Some.instance.now in
    let j : Instance = record { code = c.go_on.new.self; handles = i.handles; entered = i.entered; closed = i.closed } in
    let found : slice_get old.instances k ≡ Some i = slice_get_read old.instances (length old.instances) k i refl c.in-Some.ensures.item.3.0 c.in-Some.ensures.value in
    pause_spent h old k c.in_ok-number.ensures i j found refl c.in_ok-results.field-0 c.go_on.new.budget c.in_ok-results.ensures.goes
    c.in-Spent.is (record (with_instance old k j) { budget = c.go_on.new.budget }) refl

pub returns-in-TooDeep-clause-leads : goal.returns-in-TooDeep-clause-leads
returns-in-TooDeep-clause-leads g c =
    let h = g.H.Host.step in
    let old = at g.H.Host.kept c.args.self.now in
    let k = c.in_ok-number.number in
    let i = c.in-Some.instance.now in
    let j : Instance = record { code = c.go_on.new.self; handles = i.handles; entered = i.entered; closed = i.closed } in
    let found : slice_get old.instances k ≡ Some i = slice_get_read old.instances (length old.instances) k i refl c.in-Some.ensures.item.3.0 c.in-Some.ensures.value in
    pause_deep h old k c.in_ok-number.ensures i j found refl c.in_ok-results.field-0 c.go_on.new.budget c.in_ok-results.ensures.goes
    c.in-TooDeep.is (record (with_instance old k j) { budget = c.go_on.new.budget }) refl
