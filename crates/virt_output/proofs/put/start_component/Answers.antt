use Rattle.std.proofs.Common.{◌∙◌, ◌++◌, List, ℕ, ap}
use Rattle.virt_output.proofs.Adding.{begun}
use Rattle.virt_output.proofs.put.start_component.Goals as goal

pub returns-clause-spelled : goal.returns-clause-spelled
returns-clause-spelled c =
    begun c.put_bytes.new.out.items (c.in_ok-put_bytes.ensures ∙ ap (λ (z : List ℕ). z ++ c.as_slice.result.now) c.new-out.ensures.items ∙ c.as_slice.ensures)
