use Rattle.std.proofs.Common.{◌≡◌, map}
use Rattle.wasi_table.specs.Plain.{plain_known, plain_named}
use Rattle.wasi_table.proofs.tables.types_from.Given as goal

abbrev pub invariant-loop-one : goal.invariant-loop-one
invariant-loop-one l = map plain_named l.types ≡ map (λ k. k.named) (map plain_known l.yielded)
