use Rattle.std.proofs.Common.{◌≡◌, length}
use Rattle.path_names.specs.Parts.{parts_of}
use Rattle.policy_text.specs.Networks.{all_numbers, number_of}
use Rattle.policy_text.proofs.HexTurns.{in_front}
use Rattle.policy_text.proofs.networks.all_numbers.Given as goal

abbrev pub invariant-loop-part : goal.invariant-loop-part
invariant-loop-part l = all_numbers (number_of l.six) (parts_of l.joiner l.text) ≡ in_front l.numbers (all_numbers (number_of l.six) (parts_of l.joiner l.rest))

abbrev pub decreases-loop-part : goal.decreases-loop-part
decreases-loop-part l = length l.rest
