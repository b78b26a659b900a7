use Rattle.std.proofs.Common.{ℕ, List, sym, subst}
use Rattle.std.proofs.lemmas.Result.{IfOk-weaker}
use Rattle.wasm_ast.specs.declared.component.TypeAlias.{TypeAlias}
use Rattle.wasm_ast.specs.declared.component.TypeAlias.TheVariants.{Export}
use Rattle.comp_types.specs.Declarations.{ATypeAlias}
use Rattle.comp_types.specs.Definitions.{AType}
use Rattle.comp_defining.specs.Judged.{JudgedIn}
use Rattle.comp_validate.proofs.InnerLemmas.{judged_shared}
use Rattle.comp_validate.proofs.declarations.define_type_alias.Goals as goal

pub returns-in-Export : goal.returns-in-Export
returns-in-Export c =
    IfOk-weaker c.define_type_export_alias.result _ _ (λ rule k around s h.
    subst (λ (a : TypeAlias). JudgedIn around s (AType (ATypeAlias a)) (record c.args.scopes.now { inner = c.define_type_export_alias.new.scope }) rule) (sym c.in-Export.is)
    (subst (λ (n : List ℕ). JudgedIn around s (AType (ATypeAlias (Export c.in-Export.instance n))) (record c.args.scopes.now { inner = c.define_type_export_alias.new.scope }) rule) c.deref.ensures
    (judged_shared around s (AType (ATypeAlias (Export c.in-Export.instance c.deref.result.now))) c.args.scopes.now c.define_type_export_alias.new.scope rule h tt (k around s h.inner)))) c.define_type_export_alias.ensures

pub returns-in-Outer : goal.returns-in-Outer
returns-in-Outer c =
    IfOk-weaker c.define_outer_type.result _ _ (λ rule k around s h.
    subst (λ (a : TypeAlias). JudgedIn around s (AType (ATypeAlias a)) c.define_outer_type.new.scopes rule) (sym c.in-Outer.is) (k around s h)) c.define_outer_type.ensures
