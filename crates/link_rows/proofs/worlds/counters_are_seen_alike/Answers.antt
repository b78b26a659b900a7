use Rattle.link_rows.proofs.Counted.{counters_related}
use Rattle.link_rows.proofs.worlds.counters_are_seen_alike.Goals as goal

pub returns : goal.returns
returns c = λ G. c.related_hosts_are_seen_alike.ensures G (counters_related G)
