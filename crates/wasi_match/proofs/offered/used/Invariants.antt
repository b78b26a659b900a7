use Rattle.std.proofs.Common.{◌≡◌, ◌++◌, map, drop}
use Rattle.wasi_table.specs.Plain.{plain_named}
use Rattle.wasi_match.specs.Offered.{used}
use Rattle.wasi_match.proofs.offered.used.Given as goal

abbrev pub invariant-loop-i : goal.invariant-loop-i
invariant-loop-i l = map plain_named l.types ++ used (drop l.i l.uses) ≡ used l.uses
