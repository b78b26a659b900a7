use Rattle.abi_store.proofs.Lowers.{content_appends}
use Rattle.abi_store.proofs.flats.push_content.Goals as goal

pub returns : goal.returns
returns c =
    content_appends c.args.slots.now.items c.push.new.self.items c.push-2.new.self.items c.args.content c.len_of-len.result c.in_ok-push.ensures.items c.in_ok-push-2.ensures.items c.len_of-len.ensures
