use Rattle.ref_guards.proofs.ListedLaw.{entering_has_kinds, entering_has_room}
use Rattle.ref_guards.proofs.entering_room.results_have_room.Goals as goal

pub returns-clause-room : goal.returns-clause-room
returns-clause-room c = entering_has_room

pub returns-clause-kinds : goal.returns-clause-kinds
returns-clause-kinds c = entering_has_kinds
