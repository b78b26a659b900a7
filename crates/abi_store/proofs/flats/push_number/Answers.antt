use Rattle.abi_store.specs.declared.slot.Slot.TheVariants.{Number}
use Rattle.abi_store.proofs.Lowers.{appends_push}
use Rattle.abi_store.proofs.flats.push_number.Goals as goal

pub returns-clause-flats : goal.returns-clause-flats
returns-clause-flats c = appends_push c.args.slots.now.items c.push.new.self.items (Number c.args.number) c.in_ok-push.ensures.items
