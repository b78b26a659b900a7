use Rattle.std.proofs.Common.{ap, ◌∙◌}
use Rattle.std.specs.Option.{option_map}
use Rattle.std.proofs.lemmas.List.{map-set}
use Rattle.std.proofs.lemmas.Option.{slice_get-map}
use Rattle.slot_tables.specs.Places.{entry_of}
use Rattle.slot_tables.specs.declared.cells.Place.TheVariants.{Free}
use Rattle.slot_tables.proofs.Chain.{sound-free}
use Rattle.slot_tables.proofs.cells.free_in.Goals as goal

pub returns-clause-sound : goal.returns-clause-sound
returns-clause-sound g c =
    rw c.in-Used.ensures.written (sound-free _ c.args.rep c.args.free.now c.args.first.now c.in-Used.entry c.in-Used.ensures.value c.requires.sound)

pub returns-clause-entry : goal.returns-clause-entry
returns-clause-entry g c =
    slice_get-map entry_of (g.C.Cells.places c.args.cells.now) c.args.rep ∙ ap (option_map entry_of) c.in-Used.ensures.value

pub returns-clause-freed : goal.returns-clause-freed
returns-clause-freed g c =
    rw c.in-Used.ensures.written (map-set entry_of (g.C.Cells.places c.args.cells.now) c.args.rep (Free c.args.first.now))
