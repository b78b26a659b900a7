use Rattle.virt_engine.proofs.Following.{shows_host}
use Rattle.virt_engine.proofs.runner.Runner.show_host.Goals as goal

pub returns : goal.returns
returns g c =
    shows_host _ _ c.args.self.now c.add_all.new.self c.count_all.new.self c.host.result.now c.observations.result.now c.as_slice-seen.result.now c.behind-later.result.now
    c.host.ensures c.observations.ensures c.as_slice-seen.ensures c.behind-later.ensures c.in_ok-add_all.ensures c.in_ok-count_all.ensures
