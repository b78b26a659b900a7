use Rattle.link_rows.proofs.Joining.{readers_join}
use Rattle.link_rows.proofs.worlds.readers_do_what_both_do.Goals as goal

pub returns : goal.returns
returns c = c.parts_do_what_the_whole_does.ensures readers_join
