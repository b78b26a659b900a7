use Rattle.std.proofs.Common.{◌≡◌, []}
use Rattle.comp_calls.specs.Moments.{at}
use Rattle.comp_interp.specs.Levels.{AreSound, work}
use Rattle.comp_interp.specs.Going.{LevelsStand}
use Rattle.comp_interp.proofs.assembly.Assembly.make.Given as goal

abbrev pub invariant-levels : goal.invariant-levels
invariant-levels g l =
    AreSound l.linked l.levels.items
    × (l.fn.self.made.items ≡ [] → l.fn.self.world.instances.items ≡ [] → l.fn.self.world.frames.items ≡ [] →
    LevelsStand g.H.Host.step l.linked (at g.H.Host.kept l.fn.self.world) l.self.made.items l.levels.items (at g.H.Host.kept l.self.world))

abbrev pub decreases-levels : goal.decreases-levels
decreases-levels g l = work l.linked l.levels.items
