use Rattle.std.proofs.Common.{refl}
use Rattle.instance_making.proofs.PushLemmas.{and_canon}
use Rattle.instance_making.proofs.making.Making.keep_canon.Goals as goal

pub returns : goal.returns
returns c = λ made g ty canon place h. and_canon made c.args.self.now _ g c.args.place ty canon place h refl c.in_ok-push.ensures.items c.in_ok-canons.ensures
