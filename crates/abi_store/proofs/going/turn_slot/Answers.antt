use Rattle.abi_store.proofs.Proceeding.{turn_content}
use Rattle.abi_store.proofs.going.turn_slot.Goals as goal

pub returns-in-Place : goal.returns-in-Place
returns-in-Place c = turn_content c.args.done.now.items c.args.slot c.in-Place.content c.request_for.result c.in-Place.is c.request_for.ensures
