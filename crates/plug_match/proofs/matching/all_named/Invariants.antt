use Rattle.std.proofs.Common.{◌≡◌, drop}
use Rattle.comp_types.specs.Views.{entries_of}
use Rattle.comp_types.specs.Matching.{all_named}
use Rattle.plug_match.proofs.matching.all_named.Given as goal

abbrev pub invariant-loop-entry : goal.invariant-loop-entry
invariant-loop-entry l = all_named (entries_of l.these) l.entries ≡ all_named (entries_of (drop l.entry-index l.these)) l.entries
