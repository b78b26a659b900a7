use Rattle.std.proofs.Common.{◌∙◌, ap, sym, subst, ◌++◌}
use Rattle.comp_types.specs.Items.{KindItem}
use Rattle.comp_types.specs.Views.{kind_of}
use Rattle.comp_link.specs.Linking.{bound}
use Rattle.instance_making.specs.Shown.{SamePartners}
use Rattle.instance_making.proofs.PartnerLemmas.{partners_none}
use Rattle.instance_making.proofs.BoundLemmas.{value_bound, func_kind_bound, instance_kind_bound}
use Rattle.instance_making.proofs.bound.bind_kind.Goals as goal

pub returns-in_ok-bind_resource-in-Resource : goal.returns-in_ok-bind_resource-in-Resource
returns-in_ok-bind_resource-in-Resource c = λ before o same.
    subst (λ k. SamePartners c.bind_resource.new.resources (c.args.resources.now ++ bound o (KindItem (kind_of k)))) (sym c.in-Resource.is) (c.in_ok-bind_resource-in-Resource.ensures before o same)

pub returns-in-Value : goal.returns-in-Value
returns-in-Value c = λ before o same. partners_none c.args.resources.now (bound o (KindItem (kind_of c.args.kind.now))) (ap (λ k. bound o (KindItem (kind_of k))) c.in-Value.is ∙ value_bound o c.in-Value.field-0.value)

pub returns-in-Func : goal.returns-in-Func
returns-in-Func c = λ before o same. partners_none c.args.resources.now (bound o (KindItem (kind_of c.args.kind.now))) (ap (λ k. bound o (KindItem (kind_of k))) c.in-Func.is ∙ func_kind_bound o c.in-Func.field-0.value)

pub returns-in-Instance : goal.returns-in-Instance
returns-in-Instance c = λ before o same.
    let ty = c.in-Instance.field-0.value in
    partners_none c.args.resources.now (bound o (KindItem (kind_of c.args.kind.now))) (ap (λ k. bound o (KindItem (kind_of k))) c.in-Instance.is ∙ instance_kind_bound o ty.own ty.instance.value.entries)
