use Rattle.std.proofs.Common.{◌≡◌, ◌++◌, map, drop}
use Rattle.wit_types.specs.PlainValue.{plain_value}
use Rattle.reference_step.specs.Values.{number}
use Rattle.ref_answers.specs.Polled.{always_among}
use Rattle.ref_answers.proofs.pollables.poll.Given as goal

abbrev pub invariant-loop-place : goal.invariant-loop-place
invariant-loop-place l = map plain_value l.places.items ++ map number (always_among l.place (drop l.place l.are_host)) ≡ map number (always_among 0 l.are_host)
