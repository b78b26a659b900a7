use Rattle.comp_calls.specs.Work.{work}
use Rattle.comp_calls.specs.Moments.{at}
use Rattle.call_moments.proofs.Outer.{WentOn}
use Rattle.comp_calls.proofs.world.World.go_on.Given as goal

abbrev pub invariant-pauses : goal.invariant-pauses
invariant-pauses g l = WentOn g.H.Host.step (at g.H.Host.kept l.fn.self) (at g.H.Host.kept l.self)

abbrev pub decreases-pauses : goal.decreases-pauses
decreases-pauses g l = work l.self.budget l.self.frames.items
