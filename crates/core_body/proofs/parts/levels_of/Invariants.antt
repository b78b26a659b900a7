use Rattle.core_body.specs.Parts.{IsLevel, AreLevels}
use Rattle.core_body.proofs.parts.levels_of.Given as goal

abbrev pub invariant-loop : goal.invariant-loop
invariant-loop l = record {
  levels : AreLevels l.fn.text.items l.levels.items;
  names : IsLevel l.fn.text.items l.size l.names.items;
}
