use Rattle.std.proofs.Common.{ap, ◌∙◌}
use Rattle.reference_step.specs.Rows.{number, bytes}
use Rattle.reference_step.specs.State.{returns as returning}
use Rattle.ref_virtual.proofs.MethodsOtherLemmas.{no_sink_write, no_sink_zeroes}
use Rattle.ref_virtual.proofs.streaming.discard_row.Goals as goal

pub returns-in-Write : goal.returns-in-Write
returns-in-Write c = rw c.in-Write.is (λ f v k a o. c.returns-in-Write.ensures f ∙ ap returning c.done.ensures ∙ no_sink_write v (bytes 1 a) k o)

pub returns-in-WriteZeroes : goal.returns-in-WriteZeroes
returns-in-WriteZeroes c = rw c.in-WriteZeroes.is (λ f v k a o. c.returns-in-WriteZeroes.ensures f ∙ ap returning c.done-in-WriteZeroes.ensures ∙ no_sink_zeroes v (number 1 a) k o)
