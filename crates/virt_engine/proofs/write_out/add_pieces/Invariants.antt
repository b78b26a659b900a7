use Rattle.std.proofs.Common.{length, ◌-◌, ◌≤◌, take, Ok}
use Rattle.virt_engine.specs.Writing.{Adds}
use Rattle.virt_engine.proofs.write_out.add_pieces.Given as goal

abbrev pub invariant-loop-at : goal.invariant-loop-at
invariant-loop-at g l = record {
  within : l.at ≤ length l.bytes;
  added : Adds l.name (take l.at l.bytes) (g.F.Files.state l.fn.files) (g.F.Files.state l.files) (Ok tt);
}

abbrev pub decreases-loop-at : goal.decreases-loop-at
decreases-loop-at g l = length l.bytes - l.at
