use Rattle.std.proofs.Common.{refl, ap, Some}
use Rattle.wasm_ast.specs.declared.component.Alias.TheVariants.{CoreExport}
use Rattle.comp_types.specs.Definitions.{AnAlias}
use Rattle.comp_link.specs.Plans.{CoreItemOf, just}
use Rattle.comp_link.specs.declared.items.PlanItem.TheVariants as items
use Rattle.comp_linking.specs.Walks.{spaces}
use Rattle.comp_linking.proofs.StayLemmas.{core_alias_stays}
use Rattle.comp_linking.proofs.StepLemmas.{behind_judged}
use Rattle.comp_linking.proofs.definitions.plan_core_alias.Goals as goal

pub returns : goal.returns
returns c = λ ms todo outer a valid h.
    behind_judged ms todo outer a (AnAlias (CoreExport c.args.sort c.args.instance c.args.name.now)) c.args.planner.now c.define_core_alias.new.scope c.in_ok-define_core_alias.field-0 c.add.new.self (Some (items.CoreItemOf c.args.sort c.args.instance c.in_ok-copy.copy)) h tt
    (c.in_ok-define_core_alias.ensures (spaces outer) a.space h.scopes.inner) (λ r b. b.0 (valid r)) refl (core_alias_stays (spaces outer) a.space c.args.sort c.args.instance c.args.name.now)
    c.in_ok-add.ensures.modules c.in_ok-add.ensures.components c.in_ok-add.ensures.items
    (λ more. ap (λ name. just (CoreItemOf c.args.sort c.args.instance name)) c.in_ok-copy.ensures)
