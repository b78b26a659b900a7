use Rattle.std.proofs.Common.{sym, subst}
use Rattle.std.specs.Prelude.{option_map}
use Rattle.std.specs.Bool.{Decides}
use Rattle.std.specs.Prelude.{Bool}
use Rattle.wasm_ast.specs.declared.component.ExternDesc.{ExternDesc}
use Rattle.wasm_ast.specs.declared.component.ExternDesc.TheVariants.{Resource}
use Rattle.comp_types.specs.Views.{item_of}
use Rattle.comp_types.specs.Rules.{IsStated}
use Rattle.comp_instances.proofs.StatedLemmas.{decides_resource}
use Rattle.comp_instances.proofs.stated.is_stated.Goals as goal

pub returns-in_ok-fits-in-Func : goal.returns-in_ok-fits-in-Func
returns-in_ok-fits-in-Func c = λ s h t has.
    subst (λ (d : ExternDesc). Decides c.in_ok-fits-in-Func.fits (IsStated s (option_map item_of c.args.given.now) d)) (sym c.in-Func.is) (c.in_ok-fits-in-Func.ensures s h t has)

pub returns-in_ok-fits-in-TypeEq : goal.returns-in_ok-fits-in-TypeEq
returns-in_ok-fits-in-TypeEq c = λ s h t has.
    subst (λ (d : ExternDesc). Decides c.in_ok-fits-in-TypeEq.fits (IsStated s (option_map item_of c.args.given.now) d)) (sym c.in-TypeEq.is) (c.in_ok-fits-in-TypeEq.ensures s h t has)

pub returns-in_ok-fits-in-Instance : goal.returns-in_ok-fits-in-Instance
returns-in_ok-fits-in-Instance c = λ s h t has.
    subst (λ (d : ExternDesc). Decides c.in_ok-fits-in-Instance.fits (IsStated s (option_map item_of c.args.given.now) d)) (sym c.in-Instance.is) (c.in_ok-fits-in-Instance.ensures s h t has)

pub returns-in-Resource : goal.returns-in-Resource
returns-in-Resource c = λ s h t has.
    subst (λ (d : ExternDesc). Decides c.is_resource.result (IsStated s (option_map item_of c.args.given.now) d)) (sym c.in-Resource.is)
    (subst (λ (b : Bool). Decides b (IsStated s (option_map item_of c.args.given.now) Resource)) (sym c.is_resource.ensures) (decides_resource s (option_map item_of c.args.given.now)))
