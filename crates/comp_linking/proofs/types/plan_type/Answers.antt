use Rattle.std.proofs.Common.{◌∙◌, refl, sym, subst, ◌++◌}
use Rattle.comp_types.specs.Declarations.{Declarations}
use Rattle.comp_types.specs.Definitions.{AType, types_in}
use Rattle.comp_types.specs.Added.{after_all}
use Rattle.comp_types.specs.Validity.{AreValid}
use Rattle.comp_defining.specs.Around.{StandAll}
use Rattle.comp_linking.specs.Walks.{spaces, made}
use Rattle.comp_linking.proofs.PartLemmas.{types_stand}
use Rattle.comp_linking.proofs.StepLemmas.{behind_item}
use Rattle.comp_linking.proofs.TypeLemmas.{declaration_stays}
use Rattle.comp_linking.proofs.types.plan_type.Goals as goal

pub returns : goal.returns
returns c = λ d g p ms todo outer a valid h.
    let x = c.args.planner.now in
    let first = c.args.first.now in
    let y = c.define_types.new.scopes in
    let around = spaces outer in
    let all = subst (λ (ds : Declarations). AreValid around a.space (types_in ds)) (sym g) (valid, tt) in
    let stand = subst (λ (ds : Declarations). StandAll around (after_all around a.space (types_in ds)) y) g
    (types_stand around a.space first y c.in_ok-define_types.field-0 all (c.in_ok-define_types.ensures around a.space h.scopes)) in
    behind_item ms todo outer a (AType d) x y c.add.new.self c.type_item-item.result h stand refl (declaration_stays around a.space d)
    c.in_ok-add.ensures.modules c.in_ok-add.ensures.components c.in_ok-add.ensures.items
    (λ more. c.type_item-item.ensures ms (made ms x.components.items ++ more) a.space h.scopes.inner ∙ p a.space)
