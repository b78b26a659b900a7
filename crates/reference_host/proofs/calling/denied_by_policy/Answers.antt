use Rattle.std.proofs.Common.{◌≡◌, [], true, false, rules, sym, ap, ◌∙◌}
use Rattle.policy_data.specs.declared.policy.Policy.{Policy}
use Rattle.host_port.specs.Calls.{PlainAnswer}
use Rattle.reference_step.specs.Codes.{access_denied}
use Rattle.reference_step.specs.Rules.{Errors, errors_of, is_answered}
use Rattle.reference_step.specs.Steps.{returns, traps}
use Rattle.reference_step.specs.Values.{error_code}
use Rattle.ref_host_calls.specs.Requests.{listed_of}
use Rattle.reference_host.proofs.StepLemmas.{if_false, if_true, ok_map}
use Rattle.reference_host.proofs.calling.denied_by_policy.Goals as goal

pub returns-then-is_answered : goal.returns-then-is_answered
returns-then-is_answered g c = ok_map c.fails.result _ _ (λ a e r same.
    let yes : c.is_answered.result ≡ true = search rules in
    let errors = errors_of (listed_of c.args.request) in
    if_true (is_answered r.setup.policy.deny errors) (returns g.H.Host.step r (error_code access_denied)) (traps g.H.Host.step r) (ap (λ (p : Policy). is_answered p.deny errors) same ∙ sym (c.is_answered.ensures ∙ ap (λ (x : Errors). is_answered c.args.request.policy.now.deny x) c.errors_in.ensures) ∙ yes)
    ∙ ap (λ (x : PlainAnswer). record { seen = []; answer = x; next = r }) (sym e)) c.fails.ensures

pub returns-else-is_answered : goal.returns-else-is_answered
returns-else-is_answered g c = λ r same.
    let no : c.is_answered.result ≡ false = search rules in
    let errors = errors_of (listed_of c.args.request) in
    if_false (is_answered r.setup.policy.deny errors) (returns g.H.Host.step r (error_code access_denied)) (traps g.H.Host.step r) (ap (λ (p : Policy). is_answered p.deny errors) same ∙ sym (c.is_answered.ensures ∙ ap (λ (x : Errors). is_answered c.args.request.policy.now.deny x) c.errors_in.ensures) ∙ no)
