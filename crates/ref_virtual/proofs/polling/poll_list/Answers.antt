use Rattle.std.proofs.Common.{ap, ◌∙◌}
use Rattle.std.proofs.lemmas.Result.{IfOk-weaker}
use Rattle.wit_types.specs.PlainValue.{plain_values}
use Rattle.wit_types.proofs.ValueLemmas.{plain_value-List}
use Rattle.reference_step.specs.Handles.{content_of}
use Rattle.reference_step.specs.Values.{items}
use Rattle.ref_answers.specs.Polled.{polled}
use Rattle.ref_answers.specs.Seen.{live_in}
use Rattle.ref_answers.proofs.PollLemmas.{polled_is}
use Rattle.ref_virtual.proofs.polling.poll_list.Goals as goal

pub returns-in_ok-hosts_among-in-List : goal.returns-in_ok-hosts_among-in-List
returns-in_ok-hosts_among-in-List c =
    rw (c.in-List.is, plain_value-List)
    (IfOk-weaker c.poll.result _ _ (λ row says. λ f.
    says f ∙ ap polled (c.as_slice.ensures.value ∙ c.in_ok-hosts_among-in-List.ensures f)
    ∙ polled_is (content_of (live_in f c.args.live.now.handles)) (items (plain_values c.in-List.values))) c.poll.ensures)
