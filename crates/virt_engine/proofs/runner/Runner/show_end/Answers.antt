use Rattle.std.proofs.Common.{refl}
use Rattle.virt_engine.proofs.Ending.{ended_so}
use Rattle.virt_engine.proofs.Following.{shows_end}
use Rattle.virt_engine.proofs.runner.Runner.show_end.Goals as goal

pub returns-clause-ends : goal.returns-clause-ends
returns-clause-ends g c = ended_so c.args.end c.end_by-how.result _ _ _ _ c.end_by-how.ensures c.seen_by-seen.ensures c.in_ok-add.ensures

pub returns-clause-adds : goal.returns-clause-adds
returns-clause-adds g c = shows_end _ _ c.args.end _ _ _ c.end_by-how.result _ c.end_by-how.ensures c.seen_by-seen.ensures refl refl c.in_ok-add.ensures c.in_ok-count.ensures
