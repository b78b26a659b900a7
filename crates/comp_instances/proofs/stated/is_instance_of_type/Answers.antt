use Rattle.std.proofs.Common.{◌∙◌, ℕ, List, subst}
use Rattle.std.specs.Bool.{Decides}
use Rattle.comp_types.specs.declared.types.InstanceType.{InstanceType}
use Rattle.comp_types.specs.Subtyping.{IsSubtype}
use Rattle.comp_types.specs.Views.{kind_of}
use Rattle.comp_types.specs.GivenResources.{distinct, named_in_kind}
use Rattle.comp_types.specs.Rules.{as_they_are}
use Rattle.type_table.specs.Tables.{HasEntries}
use Rattle.comp_instances.specs.Takes.{TakesAlike}
use Rattle.comp_instances.proofs.AmongLemmas.{alike_then, distinct_alike}
use Rattle.comp_instances.proofs.StatedLemmas.{decides_instance}
use Rattle.comp_instances.proofs.stated.is_instance_of_type.Goals as goal

pub returns : goal.returns
returns c = λ a k b.
    let types = c.args.types.now in
    let named = named_in_kind (kind_of c.args.kind.now) in
    let by = c.in_ok-matched.matched in
    let fits = c.in_ok-fits.fits in
    let given = c.args.given.now.entries in
    let alike : TakesAlike by (as_they_are (distinct named)) =
    subst (λ (rs : List ℕ). TakesAlike by (as_they_are rs)) (c.as_slice.ensures ∙ c.in_ok-named.ensures k) c.in_ok-matched.ensures in
    decides_instance fits given c.args.ty.now.instance.value.entries by (as_they_are named) (alike_then by (as_they_are (distinct named)) (as_they_are named) alike (distinct_alike named))
    (subst (λ (i : InstanceType). HasEntries types given → HasEntries types i.entries → Decides fits (IsSubtype given i.entries by)) c.deref.ensures c.in_ok-fits.ensures a b)
