use Rattle.std.proofs.Common.{◌≡◌, ◌+◌, ◌==◌, [], length, map, take}
use Rattle.core_body.specs.Views.{context_at}
use Rattle.core_validate.specs.Faults.{first_fault}
use Rattle.core_validate.specs.Gather.{with_earlier}
use Rattle.core_validate.specs.Items.{AGlobal, plain_items}
use Rattle.core_validate.proofs.FirstLemmas.{rest}
use Rattle.core_validate.proofs.contents.globals_fault.Given as goal

abbrev pub invariant-loop-global : goal.invariant-loop-global
invariant-loop-global l = first_fault (context_at l.spaces) (rest (context_at l.spaces) (λ before x. AGlobal x) l.globals l.global-index) ≡ first_fault (context_at l.spaces) (plain_items AGlobal l.globals)
