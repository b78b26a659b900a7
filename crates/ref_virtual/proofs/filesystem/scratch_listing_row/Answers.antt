use Rattle.std.proofs.Common.{refl, sym, ◌∙◌}
use Rattle.std.proofs.lemmas.Result.{IfOk-weaker}
use Rattle.reference_step.specs.Handles.{ScratchEntries}
use Rattle.ref_virtual.proofs.MethodsOtherLemmas.{next_is, other_next}
use Rattle.ref_virtual.proofs.filesystem.scratch_listing_row.Goals as goal

pub returns-then-is_next : goal.returns-then-is_next
returns-then-is_next c =
    let m = c.args.folder.now in
    let at = ScratchEntries c.args.from in
    IfOk-weaker c.read_entry_row.result _ _ (λ row says. λ f v a t. says f v ∙ next_is (record v { scratch = m }) a c.args.method at (sym c.is_next.ensures ∙ c.if-is_next.true)) c.read_entry_row.ensures

pub returns-else-is_next : goal.returns-else-is_next
returns-else-is_next c =
    let m = c.args.folder.now in
    let at = ScratchEntries c.args.from in
    IfOk-weaker c.other_row.result _ _ (λ row says. λ f v a t. says f (record v { scratch = m }) at a t (other_next c.args.method at (sym c.is_next.ensures ∙ c.if-is_next.false) refl)) c.other_row.ensures
