use Rattle.std.proofs.Common.{sym, subst}
use Rattle.std.proofs.lemmas.Result.{on_ok_weaker}
use Rattle.wasm_ast.specs.declared.component.Alias.TheVariants.{Outer}
use Rattle.wasm_ast.specs.declared.component.OuterSort.{OuterSort}
use Rattle.comp_types.specs.Definitions.{AnAlias}
use Rattle.comp_linking.specs.Goes.{Plans}
use Rattle.comp_linking.proofs.aliases.plan_outer_alias.Goals as goal

pub returns-in-CoreModule : goal.returns-in-CoreModule
returns-in-CoreModule c = on_ok_weaker c.plan_outer_module.result (λ k.
    subst (λ (s : OuterSort). Plans (AnAlias (Outer s c.args.count c.args.index)) c.args.planner.now c.plan_outer_module.new.planner) (sym c.in-CoreModule.is) k) c.plan_outer_module.ensures

pub returns-in-Component : goal.returns-in-Component
returns-in-Component c = on_ok_weaker c.plan_outer_component.result (λ k.
    subst (λ (s : OuterSort). Plans (AnAlias (Outer s c.args.count c.args.index)) c.args.planner.now c.plan_outer_component.new.planner) (sym c.in-Component.is) k) c.plan_outer_component.ensures

pub returns-in-Type : goal.returns-in-Type
returns-in-Type c = on_ok_weaker c.plan_outer_type.result (λ k.
    subst (λ (s : OuterSort). Plans (AnAlias (Outer s c.args.count c.args.index)) c.args.planner.now c.plan_outer_type.new.planner) (sym c.in-Type.is) k) c.plan_outer_type.ensures
