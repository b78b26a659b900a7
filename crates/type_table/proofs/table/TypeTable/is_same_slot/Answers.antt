use Rattle.std.proofs.Common.{◌≡◌, ◌∙◌, ap, sym, Some, slice_get}
use Rattle.std.specs.Prelude.{option_map}
use Rattle.wit_types.specs.Plain.{plain}
use Rattle.type_table.specs.Slots.{slots_of, part_of}
use Rattle.type_table.specs.Tables.{trees}
use Rattle.comp_types.proofs.ValueLaws.{name-sound}
use Rattle.type_table.proofs.NodeLemmas.{slot-same}
use Rattle.type_table.proofs.table.TypeTable.is_same_slot.Goals as goal

pub returns-in_ok-same-in-Some-Some : goal.returns-in_ok-same-in-Some-Some
returns-in_ok-same-in-Some-Some c =
    let a = c.in-Some.a in
    let b = c.in-Some-slot_at.b in
    let x = c.in-Some-Some.x in
    let y = c.in-Some-Some.y in
    let first : slice_get (slots_of (plain c.args.a.now)) c.args.index ≡ Some (a.name.now, Some (plain x.now)) =
    sym c.slot_at.ensures ∙ (ap (option_map part_of) c.in-Some.is ∙ ap (λ o. Some (a.name.now, option_map (λ t. plain t.now) o)) c.in-Some-Some.is-0) in
    let second : slice_get (slots_of (plain c.args.b.now)) c.args.index ≡ Some (b.name.now, Some (plain y.now)) =
    sym c.slot_at-2.ensures ∙ (ap (option_map part_of) c.in-Some-slot_at.is ∙ ap (λ o. Some (b.name.now, option_map (λ t. plain t.now) o)) c.in-Some-Some.is-1) in
    slot-same (trees c.args.self.now) c.args.links.now c.args.others.now (slots_of (plain c.args.a.now)) (slots_of (plain c.args.b.now)) c.args.index a.name.now b.name.now (plain x.now) (plain y.now) c.link_at.result c.link_at-in-Some-Some.result c.in_ok-same-in-Some-Some.same
    first second (name-sound a.name.now b.name.now (sym c.same_name.ensures ∙ c.if-not-same_name.false)) c.link_at.ensures c.link_at-in-Some-Some.ensures c.in_ok-same-in-Some-Some.ensures
