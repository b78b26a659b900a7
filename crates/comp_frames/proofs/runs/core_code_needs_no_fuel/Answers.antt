use Rattle.comp_worlds.specs.Hosts.{hosted}
use Rattle.comp_worlds.specs.Observed.{stack}
use Rattle.comp_worlds.proofs.Fair.{host_fair, stack_fair}
use Rattle.comp_frames.proofs.Unfolding.{needs_no_fuel, meets_without_fuel, runs_serve}
use Rattle.comp_frames.proofs.runs.core_code_needs_no_fuel.Goals as goal

pub returns-clause-acts : goal.returns-clause-acts
returns-clause-acts g c = λ G below. needs_no_fuel G (stack below (hosted g.H.Host.step)) (stack_fair below (hosted g.H.Host.step) (host_fair g.H.Host.step))

pub returns-clause-ports : goal.returns-clause-ports
returns-clause-ports g c = λ G below. meets_without_fuel G (stack below (hosted g.H.Host.step)) (stack_fair below (hosted g.H.Host.step) (host_fair g.H.Host.step))

pub returns-clause-alone : goal.returns-clause-alone
returns-clause-alone g c = runs_serve g.H.Host.step
