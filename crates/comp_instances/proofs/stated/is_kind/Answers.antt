use Rattle.std.proofs.Common.{sym, subst, Option, Some, false}
use Rattle.std.specs.Prelude.{option_map}
use Rattle.std.specs.Bool.{Decides}
use Rattle.comp_types.specs.declared.types.ItemType.{ItemType}
use Rattle.comp_types.specs.Items.{Kind, KindItem}
use Rattle.comp_types.specs.Equality.{IsEqualType}
use Rattle.comp_types.specs.Views.{item_of, kind_of}
use Rattle.comp_types.specs.Rules.{IsKind}
use Rattle.type_table.specs.Tables.{HasItem}
use Rattle.type_table.specs.Covers.{HasSome}
use Rattle.comp_instances.proofs.StatedLemmas.{decides_some, decides_none}
use Rattle.comp_instances.proofs.stated.is_kind.Goals as goal

pub returns-in-None : goal.returns-in-None
returns-in-None c = λ has there.
    subst (λ (o : Option ItemType). Decides false (IsKind (option_map item_of o) (Some (kind_of c.args.kind.now)))) (sym c.in-None.is) (decides_none (KindItem (kind_of c.args.kind.now)))

pub returns-in_ok-same-in-Some : goal.returns-in_ok-same-in-Some
returns-in_ok-same-in-Some c = λ has there.
    let types = c.args.types.now in
    let same = c.in_ok-same-in-Some.same in
    let item = item_of c.in-Some.item in
    let copied = c.in_ok-copy-in-Some.ensures in
    let a : HasItem types item = subst (λ (o : Option ItemType). HasSome types (option_map item_of o)) c.in-Some.is has in
    let b = subst (λ (k : Kind). HasItem types (KindItem k)) (sym copied) there in
    subst (λ (o : Option ItemType). Decides same (IsKind (option_map item_of o) (Some (kind_of c.args.kind.now)))) (sym c.in-Some.is)
    (decides_some same item (KindItem (kind_of c.args.kind.now)) (subst (λ (k : Kind). Decides same (IsEqualType item (KindItem k))) copied (c.in_ok-same-in-Some.ensures a b)))
