use Rattle.std.proofs.Common.{◌∙◌, ap, subst}
use Rattle.wit_types.specs.Plain.{plain}
use Rattle.comp_types.specs.Substitution.{partner_in, value_with}
use Rattle.type_table.specs.Tables.{Has}
use Rattle.type_table.proofs.RetypedLemmas.{value-unpaired}
use Rattle.type_table.proofs.table.TypeTable.add_whole.Goals as goal

pub returns-clause-value : goal.returns-clause-value
returns-clause-value c = λ s.
    let ty = plain c.args.ty.now in
    c.in_ok-known.ensures.value s ∙ (ap (λ by. value_with (partner_in by) ty) c.empty-none.ensures ∙ value-unpaired ty)

pub returns-clause-has : goal.returns-clause-has
returns-clause-has c = λ s.
    let ty = plain c.args.ty.now in
    subst (Has c.add_tree.new.self) (c.in_ok-known.ensures.value s ∙ (ap (λ by. value_with (partner_in by) ty) c.empty-none.ensures ∙ value-unpaired ty)) (c.in_ok-known.ensures.has s)
