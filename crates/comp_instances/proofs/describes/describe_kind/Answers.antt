use Rattle.std.proofs.Common.{◌≡◌, sym, subst, Some, rules, arith}
use Rattle.std.proofs.lemmas.Grind.{common_steps}
use Rattle.comp_types.specs.declared.types.DeclaredInstance.{DeclaredInstance}
use Rattle.comp_types.specs.declared.types.TypeItem.{TypeItem}
use Rattle.comp_types.specs.Views.{kind_of}
use Rattle.comp_types.specs.Types.{instance_in}
use Rattle.type_table.specs.Tables.{HasEntries}
use Rattle.comp_instances.specs.Describes.{MakesInstance}
use Rattle.comp_instances.proofs.MakesLemmas.{makes_nothing}
use Rattle.comp_instances.proofs.describes.describe_kind.Goals as goal

pub returns-in_ok-made-in-Resource : goal.returns-in_ok-made-in-Resource
returns-in_ok-made-in-Resource c = λ has.
    let types = c.args.types.now in
    let made = c.in_ok-made-in-Resource.made in
    subst (λ (k : TypeItem). MakesInstance types types (instance_in (Some (kind_of k))) c.args.next made) (sym c.in-Resource.is) (makes_nothing types c.args.next made c.in_ok-made-in-Resource.ensures)

pub returns-in_ok-made-in-Value : goal.returns-in_ok-made-in-Value
returns-in_ok-made-in-Value c = λ has.
    let types = c.args.types.now in
    let made = c.in_ok-made-in-Value.made in
    subst (λ (k : TypeItem). MakesInstance types types (instance_in (Some (kind_of k))) c.args.next made) (sym c.in-Value.is) (makes_nothing types c.args.next made c.in_ok-made-in-Value.ensures)

pub returns-in_ok-made-in-Func : goal.returns-in_ok-made-in-Func
returns-in_ok-made-in-Func c = λ has.
    let types = c.args.types.now in
    let made = c.in_ok-made-in-Func.made in
    subst (λ (k : TypeItem). MakesInstance types types (instance_in (Some (kind_of k))) c.args.next made) (sym c.in-Func.is) (makes_nothing types c.args.next made c.in_ok-made-in-Func.ensures)

pub returns-in_ok-made-in-Instance : goal.returns-in_ok-made-in-Instance
returns-in_ok-made-in-Instance c =
    let types = c.args.types.now in
    let new = c.describe_declared.new.types in
    let made = c.in_ok-made-in-Instance.made in
    let same : c.deref.result.now ≡ c.in-Instance.ty.value = first_of (search rules, grind (arith, common_steps)) in
    subst (λ (k : TypeItem). HasEntries types (instance_in (Some (kind_of k))).1 → MakesInstance types new (instance_in (Some (kind_of k))) c.args.next made) (sym c.in-Instance.is)
    (subst (λ (d : DeclaredInstance). HasEntries types d.instance.value.entries → MakesInstance types new (d.own, d.instance.value.entries) c.args.next made) same c.in_ok-made-in-Instance.ensures)
