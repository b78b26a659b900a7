use Rattle.comp_worlds.proofs.ObservedGrowing.{more_steps, host_grows}
use Rattle.comp_worlds.proofs.laws.more_steps_extend.Goals as goal

pub returns-clause-runs : goal.returns-clause-runs
returns-clause-runs g c = more_steps g.H.Host.step

pub returns-clause-hosts : goal.returns-clause-hosts
returns-clause-hosts g c = host_grows g.H.Host.step
