use Rattle.std.proofs.Common.{◌≡◌, ◌+◌, ◌==◌, [], length, map, take}
use Rattle.core_body.specs.Views.{context_at}
use Rattle.core_validate.specs.Faults.{first_fault}
use Rattle.core_validate.specs.Gather.{with_earlier}
use Rattle.core_validate.specs.Items.{ABody, body_type}
use Rattle.core_validate.proofs.FirstLemmas.{rest}
use Rattle.core_validate.proofs.contents.bodies_fault.Given as goal

abbrev pub invariant-loop-place : goal.invariant-loop-place
invariant-loop-place l =
    first_fault (context_at l.spaces) (rest (context_at l.spaces) (λ before b. ABody (body_type l.core (length before)) b) l.bodies l.place)
    ≡ first_fault (context_at l.spaces) (with_earlier (λ before b. ABody (body_type l.core (length before)) b) [] l.bodies)
