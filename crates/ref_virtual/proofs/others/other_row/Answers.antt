use Rattle.std.proofs.Common.{sym, ap, ◌∙◌}
use Rattle.std.proofs.lemmas.Result.{IfOk-weaker}
use Rattle.reference_step.specs.State.{returns as returning}
use Rattle.reference_step.specs.Values.{ok}
use Rattle.ref_virtual.proofs.MethodsOtherLemmas.{other_look, other_change, other_pair, other_entry}
use Rattle.ref_virtual.proofs.others.other_row.Goals as goal

pub returns-in-Looks : goal.returns-in-Looks
returns-in-Looks c = rw c.in-Looks.is (IfOk-weaker c.look_row.result _ _ (λ row says. λ f v k a t o. says f v a t ∙ sym (other_look v a c.in-Looks.look k o)) c.look_row.ensures)

pub returns-in-Changes : goal.returns-in-Changes
returns-in-Changes c = rw c.in-Changes.is (IfOk-weaker c.fails.result _ _ (λ row says. λ f v k a t o. says f ∙ other_change v a c.in-Changes.change k o) c.fails.ensures)

pub returns-in-Pairs : goal.returns-in-Pairs
returns-in-Pairs c = rw c.in-Pairs.is (IfOk-weaker c.pair_row.result _ _ (λ row says. λ f v k a t o. says f v a ∙ sym (other_pair v a c.in-Pairs.pair k o)) c.pair_row.ensures)

pub returns-in_ok-ok-in-ReadDirectoryEntry : goal.returns-in_ok-ok-in-ReadDirectoryEntry
returns-in_ok-ok-in-ReadDirectoryEntry c = rw c.in-ReadDirectoryEntry.is (λ f v k a t o. c.returns-in-ReadDirectoryEntry.ensures f ∙ ap returning (c.in_ok-ok-in-ReadDirectoryEntry.ensures ∙ ap ok c.none.ensures) ∙ other_entry v a k o)
