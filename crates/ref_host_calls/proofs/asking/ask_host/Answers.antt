use Rattle.std.proofs.Common.{refl, sym, ap, ◌∙◌}
use Rattle.host_port.specs.Calls.{Gives, Trap, Ended, Bad, plain_answer, plain_option}
use Rattle.reference_step.specs.Steps.{host_gave, to_host}
use Rattle.ref_guards.specs.Contents.{Hosts}
use Rattle.ref_guards.proofs.KeepLaws.{keeps-same, on_always}
use Rattle.ref_host_calls.specs.Requests.{listed_of, call_of}
use Rattle.ref_host_calls.specs.Reactions.{state_at}
use Rattle.ref_host_calls.proofs.AskLemmas.{ok_map, reacts_as}
use Rattle.ref_host_calls.proofs.asking.ask_host.Goals as goal

pub returns-in-Value-clause-reaction : goal.returns-in-Value-clause-reaction
returns-in-Value-clause-reaction g c = ok_map c.give.result _ _ (λ a e f r.
    let at = state_at r f c.args.request.policy.now c.args.live.now (g.H.Host.kept c.args.inner.now).state in
    let is = ap plain_answer (sym c.in-Value.is) ∙ c.in_ok-value.ensures.answer f at in
    reacts_as g.H.Host.step at (to_host g.H.Host.step at (listed_of c.args.request) (call_of c.args.request)) (λ s seen v. host_gave g.H.Host.step s seen (listed_of c.args.request) (call_of c.args.request) v) (Gives (plain_option c.in-Value.value)) (g.H.Host.kept c.args.inner.now) (g.H.Host.kept c.ask.new.inner) is (c.in_ok-value.ensures.next f at)
    (plain_answer a) (state_at r f c.args.request.policy.now c.give.new.live (g.H.Host.kept c.ask.new.inner).state) (λ seen. e f (record r { inner = (g.H.Host.kept c.ask.new.inner).state }) seen)) c.give.ensures.gave

pub returns-in-Trap-clause-reaction : goal.returns-in-Trap-clause-reaction
returns-in-Trap-clause-reaction g c = λ f r.
    let at = state_at r f c.args.request.policy.now c.args.live.now (g.H.Host.kept c.args.inner.now).state in
    let is = ap plain_answer (sym c.in-Trap.is) ∙ c.in_ok-value.ensures.answer f at in
    reacts_as g.H.Host.step at (to_host g.H.Host.step at (listed_of c.args.request) (call_of c.args.request)) (λ s seen v. host_gave g.H.Host.step s seen (listed_of c.args.request) (call_of c.args.request) v) Trap (g.H.Host.kept c.args.inner.now) (g.H.Host.kept c.ask.new.inner) is (c.in_ok-value.ensures.next f at)
    Trap (state_at r f c.args.request.policy.now c.args.live.now (g.H.Host.kept c.ask.new.inner).state) (λ seen. refl)

pub returns-in-Ended-clause-reaction : goal.returns-in-Ended-clause-reaction
returns-in-Ended-clause-reaction g c = λ f r.
    let at = state_at r f c.args.request.policy.now c.args.live.now (g.H.Host.kept c.args.inner.now).state in
    let is = ap plain_answer (sym c.in-Ended.is) ∙ c.in_ok-value.ensures.answer f at in
    reacts_as g.H.Host.step at (to_host g.H.Host.step at (listed_of c.args.request) (call_of c.args.request)) (λ s seen v. host_gave g.H.Host.step s seen (listed_of c.args.request) (call_of c.args.request) v) Ended (g.H.Host.kept c.args.inner.now) (g.H.Host.kept c.ask.new.inner) is (c.in_ok-value.ensures.next f at)
    Ended (state_at r f c.args.request.policy.now c.args.live.now (g.H.Host.kept c.ask.new.inner).state) (λ seen. refl)

pub returns-in-Bad-clause-reaction : goal.returns-in-Bad-clause-reaction
returns-in-Bad-clause-reaction g c = λ f r.
    let at = state_at r f c.args.request.policy.now c.args.live.now (g.H.Host.kept c.args.inner.now).state in
    let is = ap plain_answer (sym c.in-Bad.is) ∙ c.in_ok-value.ensures.answer f at in
    reacts_as g.H.Host.step at (to_host g.H.Host.step at (listed_of c.args.request) (call_of c.args.request)) (λ s seen v. host_gave g.H.Host.step s seen (listed_of c.args.request) (call_of c.args.request) v) Bad (g.H.Host.kept c.args.inner.now) (g.H.Host.kept c.ask.new.inner) is (c.in_ok-value.ensures.next f at)
    Bad (state_at r f c.args.request.policy.now c.args.live.now (g.H.Host.kept c.ask.new.inner).state) (λ seen. refl)

pub returns-in-Trap-clause-keeps : goal.returns-in-Trap-clause-keeps
returns-in-Trap-clause-keeps g c = keeps-same Hosts _ _ refl

pub returns-in-Ended-clause-keeps : goal.returns-in-Ended-clause-keeps
returns-in-Ended-clause-keeps g c = keeps-same Hosts _ _ refl

pub returns-in-Bad-clause-keeps : goal.returns-in-Bad-clause-keeps
returns-in-Bad-clause-keeps g c = keeps-same Hosts _ _ refl

pub returns-in-Value-clause-typed : goal.returns-in-Value-clause-typed
returns-in-Value-clause-typed g c = on_always c.give.result _ c.in_ok-value.ensures.typed
