use Rattle.std.proofs.Common.{◌≡◌, ◌++◌, [], ◌∷◌}
use Rattle.generated.specs.Bytes.{each}
use Rattle.generated.specs.Generated.{random_added, random_calls}
use Rattle.generated.proofs.items.body.Given as goal

abbrev pub invariant-loop : goal.invariant-loop
invariant-loop l = (l.out.items ≡ (0 ∷ 0x10 ∷ 0 ∷ []) ++ each random_added l.counter) × (l.end ≡ random_calls l.i)
