use Rattle.std.proofs.Common.{[], sym, ap, ◌∙◌}
use Rattle.policy_data.specs.declared.policy.Policy.{Policy}
use Rattle.host_port.specs.Calls.{PlainAnswer}
use Rattle.reference_step.specs.Rules.{denial}
use Rattle.reference_step.specs.Steps.{denied}
use Rattle.ref_host_calls.specs.Requests.{call_of, listed_of}
use Rattle.ref_rules.specs.Seen.{denial_of}
use Rattle.ref_guards.proofs.KeepLaws.{on_always}
use Rattle.reference_host.specs.Typed.{is_free}
use Rattle.reference_host.specs.Kept.{reference_at}
use Rattle.reference_host.proofs.StepLemmas.{ends_as, goes_as, ok_map, on_map}
use Rattle.reference_host.proofs.TypedLemmas.{further, never}
use Rattle.reference_host.proofs.calling.denied.Goals as goal

pub returns-in-NotDenied-clause-reaction : goal.returns-in-NotDenied-clause-reaction
returns-in-NotDenied-clause-reaction g c = ok_map c.answered.result _ _ (λ a e.
    let is = sym (ap (λ (p : Policy). denial p (listed_of c.args.request) (call_of c.args.request)) c.requires.asked.policy) ∙ sym c.denial_of.ensures ∙ ap denial_of c.in-NotDenied.is in
    goes_as _ _ _ _ _ _ (ap (denied g.H.Host.step (reference_at c.args.setting.now c.args.holding.now (g.H.Host.kept c.args.inner.now).state) (listed_of c.args.request) (call_of c.args.request)) is) e) c.answered.ensures.reaction

pub returns-in-ByPolicy-clause-reaction : goal.returns-in-ByPolicy-clause-reaction
returns-in-ByPolicy-clause-reaction g c = ok_map c.denied_by_policy.result _ _ (λ a e.
    let is = sym (ap (λ (p : Policy). denial p (listed_of c.args.request) (call_of c.args.request)) c.requires.asked.policy) ∙ sym c.denial_of.ensures ∙ ap denial_of c.in-ByPolicy.is in
    let r = reference_at c.args.setting.now c.args.holding.now (g.H.Host.kept c.args.inner.now).state in
    ends_as _ _ _ _ (ap (denied g.H.Host.step r (listed_of c.args.request) (call_of c.args.request)) is ∙ e r (sym c.requires.asked.policy))) c.denied_by_policy.ensures

pub returns-in-ByRules-clause-reaction : goal.returns-in-ByRules-clause-reaction
returns-in-ByRules-clause-reaction g c = ok_map c.fails.result _ _ (λ a e.
    let is = sym (ap (λ (p : Policy). denial p (listed_of c.args.request) (call_of c.args.request)) c.requires.asked.policy) ∙ sym c.denial_of.ensures ∙ ap denial_of c.in-ByRules.is in
    let r = reference_at c.args.setting.now c.args.holding.now (g.H.Host.kept c.args.inner.now).state in
    ends_as _ _ _ _ (ap (denied g.H.Host.step r (listed_of c.args.request) (call_of c.args.request)) is ∙ ap (λ (x : PlainAnswer). record { seen = []; answer = x; next = r }) (sym e))) c.fails.ensures

pub returns-in-NotDenied-clause-typed : goal.returns-in-NotDenied-clause-typed
returns-in-NotDenied-clause-typed g c = on_map c.answered.result _ _ (λ typed. further _ _ _ typed) c.answered.ensures.typed

pub returns-in-ByPolicy-clause-typed : goal.returns-in-ByPolicy-clause-typed
returns-in-ByPolicy-clause-typed g c =
    let is = sym (ap (λ (p : Policy). denial p (listed_of c.args.request) (call_of c.args.request)) c.requires.asked.policy) ∙ sym c.denial_of.ensures ∙ ap denial_of c.in-ByPolicy.is in
    on_always c.denied_by_policy.result _ (never _ _ _ (ap is_free is))

pub returns-in-ByRules-clause-typed : goal.returns-in-ByRules-clause-typed
returns-in-ByRules-clause-typed g c =
    let is = sym (ap (λ (p : Policy). denial p (listed_of c.args.request) (call_of c.args.request)) c.requires.asked.policy) ∙ sym c.denial_of.ensures ∙ ap denial_of c.in-ByRules.is in
    on_always c.fails.result _ (never _ _ _ (ap is_free is))
