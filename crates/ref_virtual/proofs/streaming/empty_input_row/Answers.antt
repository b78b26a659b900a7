use Rattle.std.proofs.Common.{ap, ◌∙◌}
use Rattle.reference_step.specs.Rows.{number}
use Rattle.reference_step.specs.State.{returns as returning}
use Rattle.ref_virtual.proofs.MethodsOtherLemmas.{no_source_read, no_source_skip}
use Rattle.ref_virtual.proofs.streaming.empty_input_row.Goals as goal

pub returns-in_ok-closed-in-Read : goal.returns-in_ok-closed-in-Read
returns-in_ok-closed-in-Read c = rw c.in-Read.is (λ f v k a o. c.returns.ensures f ∙ ap returning c.in_ok-closed-in-Read.ensures ∙ no_source_read v (number 1 a) k o)

pub returns-in_ok-closed-in-Skip : goal.returns-in_ok-closed-in-Skip
returns-in_ok-closed-in-Skip c = rw c.in-Skip.is (λ f v k a o. c.returns-in-Skip.ensures f ∙ ap returning c.in_ok-closed-in-Skip.ensures ∙ no_source_skip v (number 1 a) k o)
