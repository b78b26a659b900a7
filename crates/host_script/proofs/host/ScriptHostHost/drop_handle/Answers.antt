use Rattle.std.proofs.Common.{ap}
use Rattle.host_port.specs.declared.answer.Observation.TheVariants as observations
use Rattle.host_port.specs.Calls.{Dropped}
use Rattle.host_script.proofs.HostLaws.{next_drop}
use Rattle.host_script.proofs.host.ScriptHostHost.drop_handle.Goals as goal

pub returns : goal.returns
returns c =
    next_drop c.args.self.now.left c.args.self.now.seen c.push.new.self c.args.resource.now c.args.id (observations.Dropped c.in_ok-copy.copy c.args.id) c.in_ok-push.ensures.ok
    (ap (λ r. Dropped r c.args.id) c.in_ok-copy.ensures)
