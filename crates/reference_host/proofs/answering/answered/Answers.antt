use Rattle.std.proofs.Common.{◌≡◌, ◌&&◌, not, true, false, rules, sym, ap, true≢false, ◌∙◌}
use Rattle.policy_data.specs.declared.policy.Policy.{Policy}
use Rattle.reference_step.specs.Access.{access, is_hosted}
use Rattle.reference_step.specs.Rules.{given}
use Rattle.reference_step.specs.Steps.{are_host, is_empty_poll}
use Rattle.ref_answers.specs.Seen.{live_in}
use Rattle.ref_host_calls.specs.Requests.{call_of, listed_of}
use Rattle.ref_guards.proofs.KeepLaws.{on_always}
use Rattle.reference_host.proofs.StepLemmas.{goes_as, if_false, if_true, ok_map, on_map}
use Rattle.reference_host.proofs.answering.answered.Goals as goal

pub returns-then-asks_host-clause-reaction : goal.returns-then-asks_host-clause-reaction
returns-then-asks_host-clause-reaction g c = ok_map c.hosted.result _ _ (λ a e.
    let yes : c.asks_host.result ≡ true = search rules in
    let f = listed_of c.args.request in
    let rest = are_host g.H.Host.step (live_in c.args.setting.now.table c.args.holding.now.live.handles) (given f (call_of c.args.request)) && not (is_empty_poll g.H.Host.step f (call_of c.args.request)) in
    goes_as _ _ _ _ _ _ (if_true _ _ _ (ap (λ (p : Policy). is_hosted (access p f.interface f.function.name) && rest) (sym c.requires.asked.policy) ∙ sym (c.asks_host.ensures c.args.setting.now.table) ∙ yes)) e) c.hosted.ensures.reaction

pub returns-else-asks_host-clause-reaction : goal.returns-else-asks_host-clause-reaction
returns-else-asks_host-clause-reaction g c = ok_map c.unasked.result _ _ (λ a e.
    let no : c.asks_host.result ≡ false = search rules in
    let f = listed_of c.args.request in
    let rest = are_host g.H.Host.step (live_in c.args.setting.now.table c.args.holding.now.live.handles) (given f (call_of c.args.request)) && not (is_empty_poll g.H.Host.step f (call_of c.args.request)) in
    goes_as _ _ _ _ _ _ (if_false _ _ _ (ap (λ (p : Policy). is_hosted (access p f.interface f.function.name) && rest) (sym c.requires.asked.policy) ∙ sym (c.asks_host.ensures c.args.setting.now.table) ∙ no)) e) c.unasked.ensures.reaction

pub returns-then-asks_host-clause-typed : goal.returns-then-asks_host-clause-typed
returns-then-asks_host-clause-typed g c = on_map c.hosted.result _ _ (λ typed asks. typed) c.hosted.ensures.typed

pub returns-else-asks_host-clause-typed : goal.returns-else-asks_host-clause-typed
returns-else-asks_host-clause-typed g c =
    let no : c.asks_host.result ≡ false = search rules in
    let f = listed_of c.args.request in
    let rest = are_host g.H.Host.step (live_in c.args.setting.now.table c.args.holding.now.live.handles) (given f (call_of c.args.request)) && not (is_empty_poll g.H.Host.step f (call_of c.args.request)) in
    on_always c.unasked.result _ (λ asks. absurd (true≢false (sym asks ∙ ap (λ (p : Policy). is_hosted (access p f.interface f.function.name) && rest) (sym c.requires.asked.policy) ∙ sym (c.asks_host.ensures c.args.setting.now.table) ∙ no)))
