use Rattle.std.proofs.Common.{sym}
use Rattle.virt_engine.proofs.Ending.{lines_kept}
use Rattle.virt_engine.proofs.lines.Lines.put.Goals as goal

pub returns-clause-seen : goal.returns-clause-seen
returns-clause-seen g c = lines_kept _ c.args.self.now c.self.invariant.1 (sym c.self.view_is)
