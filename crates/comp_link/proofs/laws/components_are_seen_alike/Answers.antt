use Rattle.comp_link.specs.Linking.{group_of}
use Rattle.comp_link.proofs.Seen.{component_alike}
use Rattle.comp_link.proofs.laws.components_are_seen_alike.Goals as goal

pub returns : goal.returns
returns g c = λ tree rel. component_alike g.W.Worlds.adapter g.W.Worlds.one g.W.Worlds.two g.W.Worlds.host g.W.Worlds.idle tree (c.related_hosts_are_seen_alike.ensures (group_of tree) rel)
