use Rattle.std.proofs.Common.{◌≡◌, ◌∷◌, [], map}
use Rattle.wasi_table.specs.Plain.{plain_interface}
use Rattle.wasi_listed.specs.Listed.{described}
use Rattle.adapter_world.specs.Behind.{below}
use Rattle.adapter_world.proofs.reach.describe_all.Given as goal

abbrev pub invariant-loop-number : goal.invariant-loop-number
invariant-loop-number l = map plain_interface l.all.items ≡ below (λ number. described number ∷ []) l.number
