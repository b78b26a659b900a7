use Rattle.std.proofs.Common.{Some, ap, ◌∙◌, refl}
use Rattle.std.specs.Option.{option_map}
use Rattle.std.proofs.lemmas.Option.{slice_get-map, slice_get_read}
use Rattle.slot_tables.specs.Places.{entry_of}
use Rattle.slot_tables.proofs.Chain.{live_within}
use Rattle.slot_tables.proofs.slots.Slots.get.Goals as goal

pub returns : goal.returns
returns g c =
    let ps = c.self.inside.cells.places.items in
    let within = live_within ps c.args.rep (rw (← c.self.view_is) at c.requires) in
    rw (← c.self.view_is) (slice_get-map entry_of ps c.args.rep ∙ ap (option_map entry_of) (slice_get_read ps _ c.args.rep _ refl within c.index.ensures ∙ ap Some c.in-Used.is))
