use Rattle.std.proofs.Common.{refl, sym, ◌∙◌}
use Rattle.std.proofs.lemmas.Result.{IfOk-weaker}
use Rattle.ref_answers.specs.Seen.{content_in}
use Rattle.ref_rules.specs.declared.content.Content.TheVariants.{Entries}
use Rattle.ref_virtual.proofs.MethodsOtherLemmas.{next_is, other_next}
use Rattle.tree_table.specs.Tables.{count_of}
use Rattle.ref_virtual.proofs.FilesInsideLemmas.{row_fixed}
use Rattle.wit_types.specs.PlainValue.{End}
use Rattle.ref_virtual.proofs.others.listing_row.Goals as goal

pub returns-then-is_next-clause-row : goal.returns-then-is_next-clause-row
returns-then-is_next-clause-row c =
    let at = content_in c.args.table.now (Entries c.args.node c.args.place) in
    IfOk-weaker c.read_entry_row.result _ _ (λ row says. λ v a h t. says v h ∙ next_is v a c.args.method at (sym c.is_next.ensures ∙ c.if-is_next.true)) c.read_entry_row.ensures.row

pub returns-else-is_next-clause-row : goal.returns-else-is_next-clause-row
returns-else-is_next-clause-row c =
    let f = c.args.table.now in
    let at = content_in f (Entries c.args.node c.args.place) in
    IfOk-weaker c.other_row.result _ _ (λ row says. λ v a h t. says f v at a t (other_next c.args.method at (sym c.is_next.ensures ∙ c.if-is_next.false) refl)) c.other_row.ensures

pub returns-then-is_next-clause-inside : goal.returns-then-is_next-clause-inside
returns-then-is_next-clause-inside c = IfOk-weaker c.read_entry_row.result _ _ (λ row is. λ v t. is) c.read_entry_row.ensures.inside

pub returns-else-is_next-clause-inside : goal.returns-else-is_next-clause-inside
returns-else-is_next-clause-inside c =
    let at = content_in c.args.table.now (Entries c.args.node c.args.place) in
    IfOk-weaker c.other_row.result _ _ (λ row says. λ v t. row_fixed row _ (count_of c.args.table.now) (λ f. says f v at End t (other_next c.args.method at (sym c.is_next.ensures ∙ c.if-is_next.false) refl))) c.other_row.ensures
