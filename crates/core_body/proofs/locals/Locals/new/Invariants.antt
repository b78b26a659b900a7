use Rattle.std.proofs.Common.{◌≡◌, length, take}
use Rattle.core_body.specs.Locals.{spread}
use Rattle.core_body.specs.Runs.{fill, IsRising}
use Rattle.core_body.proofs.RunLemmas.{last_end}
use Rattle.core_body.proofs.locals.Locals.new.Given as goal

abbrev pub invariant-loop-run : goal.invariant-loop-run
invariant-loop-run l = record {
  rising : IsRising (length l.params) l.ends.items;
  last : l.end ≡ last_end (length l.params) l.ends.items;
  filled : fill (length l.params) l.ends.items ≡ spread (take l.run-index l.runs);
}
