use Rattle.std.proofs.Common.{◌∙◌, ap, sym}
use Rattle.path_names.specs.Parts.{parts_of}
use Rattle.policy_text.specs.Networks.{all_numbers, number_of}
use Rattle.policy_text.proofs.HexTurns.{in_front}
use Rattle.policy_text.proofs.NetworkTexts.{number_turn}
use Rattle.policy_text.proofs.networks.all_numbers.Goals as goal

pub loop-part-preserved : goal.loop-part-preserved
loop-part-preserved c =
    c.loop-part.invariant
    ∙ (number_turn (number_of c.args.six) c.loop-part.numbers c.in-Some.part.now (parts_of c.args.joiner c.loop-part.rest.now)
    (parts_of c.args.joiner c.in-Some.more.now) c.in-Some-number_of.number c.in-Some.ensures.parts (sym c.in-Some-number_of.ensures)
    ∙ ap (λ ns. in_front ns (all_numbers (number_of c.args.six) (parts_of c.args.joiner c.in-Some.more.now))) (sym c.in_ok-push.ensures.ok))
