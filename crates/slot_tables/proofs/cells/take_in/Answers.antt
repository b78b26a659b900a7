use Rattle.std.proofs.Common.{ap, subst, ◌∙◌}
use Rattle.std.specs.Option.{option_map}
use Rattle.std.proofs.lemmas.List.{map-set}
use Rattle.std.proofs.lemmas.Option.{slice_get-map}
use Rattle.slot_tables.specs.Places.{entry_of, IsSound}
use Rattle.slot_tables.specs.declared.cells.Place.TheVariants.{Used}
use Rattle.slot_tables.proofs.Chain.{sound-take}
use Rattle.slot_tables.proofs.cells.take_in.Goals as goal

pub returns-clause-sound : goal.returns-clause-sound
returns-clause-sound g c =
    rw c.in-Free.ensures.written (sound-take _ c.in-Some.at c.args.free.now c.in-Free.next c.args.entry c.in-Free.ensures.value
    (subst (λ first. IsSound (g.C.Cells.places c.args.cells.now) first c.args.free.now) c.in-Some.is c.requires.sound))

pub returns-clause-was_free : goal.returns-clause-was_free
returns-clause-was_free g c =
    slice_get-map entry_of (g.C.Cells.places c.args.cells.now) c.in-Some.at ∙ ap (option_map entry_of) c.in-Free.ensures.value

pub returns-clause-taken : goal.returns-clause-taken
returns-clause-taken g c =
    rw c.in-Free.ensures.written (map-set entry_of (g.C.Cells.places c.args.cells.now) c.in-Some.at (Used c.args.entry))
