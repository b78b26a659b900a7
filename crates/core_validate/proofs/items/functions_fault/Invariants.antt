use Rattle.std.proofs.Common.{◌≡◌, ◌+◌, ◌==◌, [], length, map, take}
use Rattle.core_body.specs.Views.{context_at}
use Rattle.core_validate.specs.Faults.{first_fault}
use Rattle.core_validate.specs.Gather.{with_earlier}
use Rattle.core_validate.specs.Items.{AFunction, plain_items}
use Rattle.core_validate.proofs.FirstLemmas.{rest}
use Rattle.core_validate.proofs.items.functions_fault.Given as goal

abbrev pub invariant-loop-ty : goal.invariant-loop-ty
invariant-loop-ty l = first_fault (context_at l.spaces) (rest (context_at l.spaces) (λ before x. AFunction x) l.functions l.ty-index) ≡ first_fault (context_at l.spaces) (plain_items AFunction l.functions)
