use Rattle.ref_rules.specs.Lives.{count_of_kind}
use Rattle.ref_guards.proofs.EnterLemmas.{one_room}
use Rattle.ref_guards.proofs.entering.enter.Goals as goal

pub add-number-requires-clause-room : goal.add-number-requires-clause-room
add-number-requires-clause-room c = one_room c.args.atom c.in-Handle.kind c.in-Handle.id (count_of_kind c.in-Handle.kind c.args.live.now.handles) c.args.live.now.slots c.in-Handle.is (c.requires.room c.in-Handle.kind)
