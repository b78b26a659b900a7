use Rattle.std.proofs.Common.{ℕ, List, sym, subst}
use Rattle.std.proofs.lemmas.Result.{IfOk-weaker}
use Rattle.wasm_ast.specs.declared.component.TypeItem.{TypeItem}
use Rattle.comp_types.specs.Declarations.{ATypeDef, ATypeExport}
use Rattle.comp_types.specs.Definitions.{AType}
use Rattle.comp_defining.specs.Judged.{JudgedIn}
use Rattle.comp_defining.proofs.Inner.{judged_inner}
use Rattle.comp_validate.specs.Rest.{alone}
use Rattle.comp_validate.proofs.declarations.add_alone.Goals as goal

pub returns-in-Define : goal.returns-in-Define
returns-in-Define c =
    IfOk-weaker c.define_kept.result _ _ (λ rule k around s h.
    subst (λ (i : TypeItem). JudgedIn around s (AType (alone i)) (record c.args.scopes.now { inner = c.define_kept.new.scope; types = c.define_kept.new.types }) rule) (sym c.in-Define.is)
    (let both = k around s h.inner h.covered.0 in
    judged_inner around s (AType (ATypeDef c.in-Define.def)) c.args.scopes.now c.define_kept.new.scope c.define_kept.new.types rule h both.1 both.0)) c.define_kept.ensures

pub returns-in-Alias : goal.returns-in-Alias
returns-in-Alias c =
    IfOk-weaker c.define_type_alias.result _ _ (λ rule k around s h.
    subst (λ (i : TypeItem). JudgedIn around s (AType (alone i)) c.define_type_alias.new.scopes rule) (sym c.in-Alias.is) (k around s h)) c.define_type_alias.ensures

pub returns-in-Export : goal.returns-in-Export
returns-in-Export c =
    IfOk-weaker c.define_type_export.result _ _ (λ rule k around s h.
    subst (λ (i : TypeItem). JudgedIn around s (AType (alone i)) (record c.args.scopes.now { inner = c.define_type_export.new.scope; types = c.define_type_export.new.types }) rule) (sym c.in-Export.is)
    (subst (λ (n : List ℕ). JudgedIn around s (AType (ATypeExport n c.in-Export.desc)) (record c.args.scopes.now { inner = c.define_type_export.new.scope; types = c.define_type_export.new.types }) rule) c.deref.ensures
    (let both = k around s h.inner h.covered.0 in
    judged_inner around s (AType (ATypeExport c.deref.result.now c.in-Export.desc)) c.args.scopes.now c.define_type_export.new.scope c.define_type_export.new.types rule h both.1 both.0))) c.define_type_export.ensures
