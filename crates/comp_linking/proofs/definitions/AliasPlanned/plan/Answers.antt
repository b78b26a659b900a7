use Rattle.std.proofs.Common.{sym, subst}
use Rattle.std.proofs.lemmas.Result.{on_ok_weaker}
use Rattle.wasm_ast.specs.declared.component.Alias.{Alias}
use Rattle.comp_types.specs.Definitions.{AnAlias}
use Rattle.comp_linking.specs.Goes.{Plans}
use Rattle.comp_linking.proofs.definitions.AliasPlanned.plan.Goals as goal

pub returns-in-Export : goal.returns-in-Export
returns-in-Export c = on_ok_weaker c.plan_export_alias.result (λ k.
    subst (λ (a : Alias). Plans (AnAlias a) c.args.planner.now c.plan_export_alias.new.planner) (sym c.in-Export.is) k) c.plan_export_alias.ensures

pub returns-in-CoreExport : goal.returns-in-CoreExport
returns-in-CoreExport c = on_ok_weaker c.plan_core_alias.result (λ k.
    subst (λ (a : Alias). Plans (AnAlias a) c.args.planner.now c.plan_core_alias.new.planner) (sym c.in-CoreExport.is) k) c.plan_core_alias.ensures

pub returns-in-Outer : goal.returns-in-Outer
returns-in-Outer c = on_ok_weaker c.plan_outer_alias.result (λ k.
    subst (λ (a : Alias). Plans (AnAlias a) c.args.planner.now c.plan_outer_alias.new.planner) (sym c.in-Outer.is) k) c.plan_outer_alias.ensures
