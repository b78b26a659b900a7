use Rattle.std.proofs.Common.{◌≡◌, drop}
use Rattle.comp_types.specs.Views.{entries_of}
use Rattle.comp_types.specs.Matching.{matched_entries}
use Rattle.wasi_match.specs.Views.{entries_in}
use Rattle.wasi_match.proofs.entries.match_entries.Given as goal

abbrev pub invariant-loop-i : goal.invariant-loop-i
invariant-loop-i l = matched_entries l.fn.by (entries_in l.offered) (entries_of l.entries) ≡ matched_entries l.by (entries_in l.offered) (entries_of (drop l.i l.entries))
