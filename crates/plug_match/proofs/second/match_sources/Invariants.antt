use Rattle.std.proofs.Common.{◌≡◌, drop}
use Rattle.comp_types.specs.Views.{entries_of}
use Rattle.plug_match.specs.Walk.{second_from, second_of}
use Rattle.plug_match.proofs.second.match_sources.Given as goal

abbrev pub invariant-loop-i : goal.invariant-loop-i
invariant-loop-i l = second_from l.first l.given l.plugging (entries_of (drop l.i l.imports)) l.exports ≡ second_of l.first l.given (entries_of l.imports) l.exports
