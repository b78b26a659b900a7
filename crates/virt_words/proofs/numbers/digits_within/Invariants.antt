use Rattle.std.proofs.Common.{◌≡◌, ◌≤◌, length}
use Rattle.virt_words.specs.Numbers.{digits_within}
use Rattle.virt_words.proofs.numbers.digits_within.Given as goal

abbrev pub invariant-loop-digit : goal.invariant-loop-digit
invariant-loop-digit l = (digits_within l.greatest 0 l.digits ≡ digits_within l.greatest l.number l.rest) × (l.number ≤ 10000000000)

abbrev pub decreases-loop-digit : goal.decreases-loop-digit
decreases-loop-digit l = length l.rest
