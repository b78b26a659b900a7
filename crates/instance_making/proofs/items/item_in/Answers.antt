use Rattle.std.proofs.Common.{◌∙◌, ap, sym, subst, Some}
use Rattle.std.specs.Option.{option_copied}
use Rattle.comp_link.specs.Linking.{find}
use Rattle.instance_making.specs.Made.{IsSame}
use Rattle.instance_making.proofs.FoundLemmas.{same_some, item_at}
use Rattle.instance_making.proofs.items.item_in.Goals as goal

pub returns-in-None : goal.returns-in-None
returns-in-None c = λ before items k e.
    subst (λ o. IsSame before o (find c.args.name.now items)) (sym c.item_there.ensures ∙ ap option_copied c.in-None.is) (item_at before c.args.made.now.items c.args.number items c.args.name.now k e)

pub returns-in_ok-share-in-Some : goal.returns-in_ok-share-in-Some
returns-in_ok-share-in-Some c = λ before items k e.
    let there = subst (λ o. IsSame before o (find c.args.name.now items)) (sym c.item_there.ensures ∙ ap option_copied c.in-Some.is) (item_at before c.args.made.now.items c.args.number items c.args.name.now k e) in
    let x = same_some before c.in-Some.item.now (find c.args.name.now items) there in
    subst (λ p. IsSame before (Some c.in_ok-share-in-Some.field-0) p) (sym x.1) (c.in_ok-share-in-Some.ensures before x.0 x.2)
