use Rattle.std.proofs.Common.{sym, subst}
use Rattle.std.proofs.lemmas.Result.{IfOk-weaker}
use Rattle.wasm_ast.specs.declared.component.Alias.{Alias}
use Rattle.wasm_ast.specs.declared.component.Alias.TheVariants.{Export, CoreExport}
use Rattle.comp_types.specs.Definitions.{AnAlias}
use Rattle.comp_defining.specs.Judged.{JudgedIn}
use Rattle.comp_validate.proofs.InnerLemmas.{judged_shared}
use Rattle.comp_validate.proofs.definitions.AliasDefines.define.Goals as goal

pub returns-in-Export : goal.returns-in-Export
returns-in-Export c =
    IfOk-weaker c.define_export_alias.result _ _ (λ rule k around s h.
    subst (λ (a : Alias). JudgedIn around s (AnAlias a) (record c.args.scopes.now { inner = c.define_export_alias.new.scope }) rule) (sym c.in-Export.is)
    (judged_shared around s (AnAlias (Export c.in-Export.sort c.in-Export.instance c.in-Export.name)) c.args.scopes.now c.define_export_alias.new.scope rule h tt (k around s h.inner))) c.define_export_alias.ensures

pub returns-in-CoreExport : goal.returns-in-CoreExport
returns-in-CoreExport c =
    IfOk-weaker c.define_core_alias.result _ _ (λ rule k around s h.
    subst (λ (a : Alias). JudgedIn around s (AnAlias a) (record c.args.scopes.now { inner = c.define_core_alias.new.scope }) rule) (sym c.in-CoreExport.is)
    (judged_shared around s (AnAlias (CoreExport c.in-CoreExport.sort c.in-CoreExport.instance c.in-CoreExport.name)) c.args.scopes.now c.define_core_alias.new.scope rule h tt (k around s h.inner))) c.define_core_alias.ensures

pub returns-in-Outer : goal.returns-in-Outer
returns-in-Outer c =
    IfOk-weaker c.define_outer_alias.result _ _ (λ rule k around s h.
    subst (λ (a : Alias). JudgedIn around s (AnAlias a) c.define_outer_alias.new.scopes rule) (sym c.in-Outer.is) (k around s h)) c.define_outer_alias.ensures
