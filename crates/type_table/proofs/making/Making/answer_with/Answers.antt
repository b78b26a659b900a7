use Rattle.std.proofs.Common.{◌≡◌, ◌∙◌, ap, subst, Some}
use Rattle.wit_types.specs.Plain.{plain, plain_result}
use Rattle.comp_facts.specs.Facts.{IsFactsOf, IsAnswerOf}
use Rattle.comp_types.specs.Substitution.{partner_in}
use Rattle.type_table.proofs.MakingLemmas.{answered}
use Rattle.type_table.proofs.making.Making.answer_with.Goals as goal

pub returns-in_ok-copy_type-in-Some-Some-clause-made : goal.returns-in_ok-copy_type-in-Some-Some-clause-made
returns-in_ok-copy_type-in-Some-Some-clause-made c = λ s.
    let ty = plain c.in-Some-Some.ty in
    let new = c.in_ok-new-in-Some-Some.new.value in
    let is : plain_result c.args.ty.now ≡ Some ty = ap plain_result c.in-Some-Some.is-0 in
    let facts : IsFactsOf ty c.in-Some-Some.facts = subst (IsAnswerOf (Some ty)) c.in-Some-Some.is-1 (subst (λ o. IsAnswerOf o c.args.facts.now) is c.requires) in
    let copy : plain c.in_ok-copy_type-in-Some-Some.field-0 ≡ new = c.in_ok-copy_type-in-Some-Some.ensures ∙ (c.ty.ensures ∙ c.deref.ensures) in
    answered c.args.self.now.types c.keyed_with.new.self.types (partner_in c.args.self.now.by) (plain_result c.args.ty.now) ty new (Some (plain c.in_ok-copy_type-in-Some-Some.field-0)) is (ap Some copy)
    (c.in_ok-new-in-Some-Some.ensures.made facts.key)
