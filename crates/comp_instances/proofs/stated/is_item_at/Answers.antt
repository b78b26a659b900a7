use Rattle.std.proofs.Common.{sym, subst, false}
use Rattle.std.specs.Prelude.{Some}
use Rattle.std.specs.Bool.{Decides}
use Rattle.comp_types.specs.declared.types.ItemType.{ItemType}
use Rattle.comp_types.specs.declared.types.InstanceType.{InstanceType}
use Rattle.comp_types.specs.Items.{InstanceItem}
use Rattle.comp_types.specs.Views.{item_of}
use Rattle.comp_types.specs.Rules.{IsInstanceOf}
use Rattle.comp_types.specs.Spaces.{kind_at}
use Rattle.comp_types.specs.Types.{instance_in}
use Rattle.type_table.specs.Tables.{HasItem, HasEntries}
use Rattle.comp_instances.proofs.StatedLemmas.{decides_no_instance}
use Rattle.comp_instances.proofs.stated.is_item_at.Goals as goal

pub returns-in-Func : goal.returns-in-Func
returns-in-Func c = λ s h t has.
    subst (λ (i : ItemType). Decides false (IsInstanceOf (Some (item_of i)) (instance_in (kind_at s c.args.index)))) (sym c.in-Func.is) (decides_no_instance _ (instance_in (kind_at s c.args.index)) (λ es e. cc))

pub returns-in-Kind : goal.returns-in-Kind
returns-in-Kind c = λ s h t has.
    subst (λ (i : ItemType). Decides false (IsInstanceOf (Some (item_of i)) (instance_in (kind_at s c.args.index)))) (sym c.in-Kind.is) (decides_no_instance _ (instance_in (kind_at s c.args.index)) (λ es e. cc))

pub returns-in_ok-fits-in-Instance : goal.returns-in_ok-fits-in-Instance
returns-in_ok-fits-in-Instance c = λ s h t has.
    let types = c.args.types.now in
    let fits = c.in_ok-fits-in-Instance.fits in
    subst (λ (i : ItemType). Decides fits (IsInstanceOf (Some (item_of i)) (instance_in (kind_at s c.args.index)))) (sym c.in-Instance.is)
    (subst (λ (u : InstanceType). HasEntries types u.entries → Decides fits (IsInstanceOf (Some (InstanceItem u.entries)) (instance_in (kind_at s c.args.index)))) c.deref.ensures
    (c.in_ok-fits-in-Instance.ensures s h t) (subst (λ (i : ItemType). HasItem types (item_of i)) c.in-Instance.is has))
