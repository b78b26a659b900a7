use Rattle.comp_inside.proofs.Renamed.{over_groups, over_hosts}
use Rattle.comp_inside.proofs.renames.renamed_groups_do_the_same.Goals as goal

pub returns-clause-over_groups : goal.returns-clause-over_groups
returns-clause-over_groups g c = over_groups g.H.Host.step

pub returns-clause-over_hosts : goal.returns-clause-over_hosts
returns-clause-over_hosts g c = over_hosts g.H.Host.step
