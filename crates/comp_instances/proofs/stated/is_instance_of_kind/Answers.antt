use Rattle.std.proofs.Common.{sym, subst, true}
use Rattle.std.specs.Prelude.{Some}
use Rattle.std.specs.Bool.{Decides}
use Rattle.comp_types.specs.declared.types.TypeItem.{TypeItem}
use Rattle.comp_types.specs.declared.types.DeclaredInstance.{DeclaredInstance}
use Rattle.comp_types.specs.Items.{InstanceItem, InstanceKind}
use Rattle.comp_types.specs.Subtyping.{IsSubtype}
use Rattle.comp_types.specs.Views.{kind_of}
use Rattle.comp_types.specs.GivenResources.{named_in_kind}
use Rattle.comp_types.specs.Rules.{IsInstanceOf, as_they_are}
use Rattle.comp_types.specs.Types.{instance_in}
use Rattle.type_table.specs.Tables.{HasKind, HasEntries}
use Rattle.comp_instances.proofs.StatedLemmas.{decides_given, decides_nothing}
use Rattle.comp_instances.proofs.stated.is_instance_of_kind.Goals as goal

pub returns-in-Resource : goal.returns-in-Resource
returns-in-Resource c = λ a k.
    subst (λ (k : TypeItem). Decides true (IsInstanceOf (Some (InstanceItem c.args.given.now.entries)) (instance_in (Some (kind_of k))))) (sym c.in-Resource.is) (decides_nothing c.args.given.now.entries)

pub returns-in-Value : goal.returns-in-Value
returns-in-Value c = λ a k.
    subst (λ (k : TypeItem). Decides true (IsInstanceOf (Some (InstanceItem c.args.given.now.entries)) (instance_in (Some (kind_of k))))) (sym c.in-Value.is) (decides_nothing c.args.given.now.entries)

pub returns-in-Func : goal.returns-in-Func
returns-in-Func c = λ a k.
    subst (λ (k : TypeItem). Decides true (IsInstanceOf (Some (InstanceItem c.args.given.now.entries)) (instance_in (Some (kind_of k))))) (sym c.in-Func.is) (decides_nothing c.args.given.now.entries)

pub returns-in_ok-fits-in-Instance : goal.returns-in_ok-fits-in-Instance
returns-in_ok-fits-in-Instance c = λ a k.
    let types = c.args.types.now in
    let fits = c.in_ok-fits-in-Instance.fits in
    let given = c.args.given.now.entries in
    let kind = c.args.kind.now in
    let ty = c.in-Instance.ty.value in
    let es = ty.instance.value.entries in
    let by = as_they_are (named_in_kind (InstanceKind ty.own es)) in
    let b : HasEntries types es = subst (λ (i : TypeItem). HasKind types (kind_of i)) c.in-Instance.is k in
    let d =
    subst (λ (t : DeclaredInstance). HasEntries types given → HasKind types (kind_of kind) → HasEntries types t.instance.value.entries → Decides fits (IsSubtype given t.instance.value.entries (as_they_are (named_in_kind (kind_of kind)))))
    c.deref.ensures c.in_ok-fits-in-Instance.ensures a k b in
    let e = subst (λ (i : TypeItem). Decides fits (IsSubtype given es (as_they_are (named_in_kind (kind_of i))))) c.in-Instance.is d in
    subst (λ (i : TypeItem). Decides fits (IsInstanceOf (Some (InstanceItem given)) (instance_in (Some (kind_of i))))) (sym c.in-Instance.is) (decides_given fits given es by e)
