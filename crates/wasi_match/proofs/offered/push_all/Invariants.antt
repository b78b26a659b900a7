use Rattle.std.proofs.Common.{◌≡◌, ◌++◌, map}
use Rattle.wasi_table.specs.Plain.{plain_named}
use Rattle.wasi_match.proofs.offered.push_all.Given as goal

abbrev pub invariant-loop-ty : goal.invariant-loop-ty
invariant-loop-ty l = map plain_named l.types ≡ map plain_named l.fn.types ++ map plain_named l.yielded
