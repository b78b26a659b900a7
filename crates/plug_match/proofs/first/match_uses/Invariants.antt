use Rattle.std.proofs.Common.{◌≡◌, drop}
use Rattle.comp_types.specs.Views.{entries_of}
use Rattle.plug_match.specs.FirstWalk.{first_from, first_of}
use Rattle.plug_match.proofs.first.match_uses.Given as goal

abbrev pub invariant-loop-i : goal.invariant-loop-i
invariant-loop-i l = first_from l.first (entries_of (drop l.i l.imports)) ≡ first_of (entries_of l.imports)
