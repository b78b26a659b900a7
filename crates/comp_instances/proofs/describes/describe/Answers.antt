use Rattle.std.proofs.Common.{sym, subst}
use Rattle.wasm_ast.specs.declared.component.ExternDesc.{ExternDesc}
use Rattle.wasm_ast.specs.declared.component.ExternDesc.TheVariants.{Func, TypeEq, Resource}
use Rattle.type_table.proofs.ScopeLaws.{described_func, described_type, described_resource}
use Rattle.comp_instances.specs.Describes.{Describes}
use Rattle.comp_instances.proofs.MakesLemmas.{describes_same}
use Rattle.comp_instances.proofs.describes.describe.Goals as goal

pub returns-in_ok-made-in-Func : goal.returns-in_ok-made-in-Func
returns-in_ok-made-in-Func c = λ s h covers.
    let types = c.args.types.now in
    let made = c.in_ok-made-in-Func.made in
    subst (λ (d : ExternDesc). Describes types types s d made) (sym c.in-Func.is) (describes_same types s (Func c.in-Func.index) made (c.in_ok-made-in-Func.ensures s h) (described_func types s c.in-Func.index covers))

pub returns-in_ok-made-in-TypeEq : goal.returns-in_ok-made-in-TypeEq
returns-in_ok-made-in-TypeEq c = λ s h covers.
    let types = c.args.types.now in
    let made = c.in_ok-made-in-TypeEq.made in
    subst (λ (d : ExternDesc). Describes types types s d made) (sym c.in-TypeEq.is) (describes_same types s (TypeEq c.in-TypeEq.index) made (c.in_ok-made-in-TypeEq.ensures s h) (described_type types s c.in-TypeEq.index covers))

pub returns-in_ok-made-in-Resource : goal.returns-in_ok-made-in-Resource
returns-in_ok-made-in-Resource c = λ s h covers.
    let types = c.args.types.now in
    let made = c.in_ok-made-in-Resource.made in
    subst (λ (d : ExternDesc). Describes types types s d made) (sym c.in-Resource.is) (describes_same types s Resource made (c.in_ok-made-in-Resource.ensures s h) (described_resource types s))

pub returns-in_ok-made-in-Instance : goal.returns-in_ok-made-in-Instance
returns-in_ok-made-in-Instance c = λ s h covers.
    subst (λ (d : ExternDesc). Describes c.args.types.now c.describe_instance.new.types s d c.in_ok-made-in-Instance.made) (sym c.in-Instance.is) (c.in_ok-made-in-Instance.ensures s h covers)
