use Rattle.std.proofs.Common.{sym, ap, ◌∙◌, map}
use Rattle.wit_types.specs.PlainValue.{plain_value}
use Rattle.reference_step.specs.State.{returns as returning}
use Rattle.ref_answers.specs.Shown.{shown}
use Rattle.ref_answers.proofs.PollLemmas.{none_more, poll_done}
use Rattle.ref_answers.proofs.pollables.poll.Goals as goal

pub returns : goal.returns
returns c = λ f.
    poll_done (shown f c.returns.result) (map plain_value c.loop-place.places.items) c.args.are_host.now
    (c.returns.ensures f ∙ ap returning c.list.ensures)
    (none_more (map plain_value c.loop-place.places.items) c.args.are_host.now c.loop-place.place _ c.loop-place-test.false c.loop-place.invariant)
    (sym c.is_empty.ensures ∙ c.if-is_empty.false)
