use Rattle.ref_guards.proofs.RoomLemmas.{one_noted}
use Rattle.ref_guards.proofs.room.note_own.Goals as goal

pub returns-then-at-lt-KINDS : goal.returns-then-at-lt-KINDS
returns-then-at-lt-KINDS c = λ many is. one_noted many c.args.kind c.args.owned.now _ _ c.if-at-lt-KINDS.true is c.saturating_add.ensures
