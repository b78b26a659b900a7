use Rattle.std.proofs.Common.{sym, subst, None}
use Rattle.std.proofs.lemmas.Result.{on_ok_weaker}
use Rattle.wasm_ast.specs.declared.component.TypeDef.{TypeDef}
use Rattle.comp_types.specs.Added.{and_resource}
use Rattle.comp_scopes.specs.Stands.{Stands}
use Rattle.comp_defining.proofs.types.and_resource.Goals as goal

pub returns-in-Resource : goal.returns-in-Resource
returns-in-Resource c =
    on_ok_weaker c.add_resource.result (λ k s h. subst (λ (d : TypeDef). Stands (and_resource s d) c.add_resource.new.scope) (sym c.in-Resource.is) (k s None h)) c.add_resource.ensures
