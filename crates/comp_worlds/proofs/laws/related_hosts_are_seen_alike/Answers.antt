use Rattle.comp_worlds.proofs.Outside.{seen_alike}
use Rattle.comp_worlds.proofs.laws.related_hosts_are_seen_alike.Goals as goal

pub returns : goal.returns
returns g c = λ G rel. seen_alike g.W.Worlds.adapter g.W.Worlds.one g.W.Worlds.two g.W.Worlds.host g.W.Worlds.idle g.W.Worlds.answered g.W.Worlds.live G rel
