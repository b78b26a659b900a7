use Rattle.std.proofs.Common.{◌≡◌, ◌↔◌, length, drop}
use Rattle.core_instance.specs.Matching.{AllMatch}
use Rattle.core_instance.proofs.matching.imports_match.Given as goal

abbrev pub invariant-loop-i : goal.invariant-loop-i
invariant-loop-i l = record {
  same : AllMatch l.store l.types (drop l.i l.wanted) (drop l.i l.given) ↔ AllMatch l.store l.types l.wanted l.given;
  long : length l.wanted ≡ length l.given;
}
