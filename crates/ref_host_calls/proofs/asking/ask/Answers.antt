use Rattle.std.proofs.Common.{ap, ◌∙◌}
use Rattle.host_port.specs.Calls.{plain_answer}
use Rattle.host_port.specs.Hosts.{answer_of, reacts}
use Rattle.ref_host_calls.proofs.AskLemmas.{ok_both, ok_map, on_map, typed_as}
use Rattle.ref_host_calls.proofs.asking.ask.Goals as goal

pub returns-clause-answer : goal.returns-clause-answer
returns-clause-answer g c = ok_map c.call.result _ _ (λ a e f r. e ∙ ap (answer_of g.H.Host.step (g.H.Host.kept c.args.inner.now)) (c.in_ok-theirs.ensures f r)) c.call.ensures.answer

pub returns-clause-next : goal.returns-clause-next
returns-clause-next g c = on_map c.call.result _ _ (λ e f r. e ∙ ap (reacts g.H.Host.step (g.H.Host.kept c.args.inner.now)) (c.in_ok-theirs.ensures f r)) c.call.ensures.next

pub returns-clause-typed : goal.returns-clause-typed
returns-clause-typed g c = ok_both c.call.result _ _ _ (λ a is typed f r. typed_as g.H.Host.step (g.H.Host.kept c.args.inner.now) _ _ (plain_answer a) (c.in_ok-theirs.ensures f r) is typed) c.call.ensures.answer c.call.ensures.typed
