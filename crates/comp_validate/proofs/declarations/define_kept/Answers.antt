use Rattle.std.proofs.Common.{◌≡◌, subst}
use Rattle.std.proofs.lemmas.Result.{IfOk-weaker}
use Rattle.wasm_ast.specs.declared.component.TypeDef.{TypeDef}
use Rattle.comp_types.specs.Declarations.{ATypeDef}
use Rattle.comp_types.specs.Definitions.{AType}
use Rattle.comp_scopes.specs.Judged.{Judged}
use Rattle.type_table.specs.Anew.{Makes}
use Rattle.comp_validate.proofs.declarations.define_kept.Goals as goal

pub returns : goal.returns
returns c =
    IfOk-weaker c.define_type.result _ _ (λ rule k around s h covers.
    subst (λ (d : TypeDef). Judged around s (AType (ATypeDef d)) c.define_type.new.scope rule × Makes c.args.types.now c.define_type.new.types s (AType (ATypeDef d)) rule) c.in_ok-def.ensures (k around s h covers)) c.define_type.ensures
