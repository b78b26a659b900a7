use Rattle.std.proofs.Common.{◌≡◌, map}
use Rattle.std.specs.List.{flat_map}
use Rattle.wasi_table.specs.Plain.{plain_interface}
use Rattle.adapter_world.specs.Needed.{needed_in}
use Rattle.adapter_world.specs.Behind.{below, function_types}
use Rattle.adapter_world.proofs.needs.types_through.Given as goal

abbrev pub invariant-loop-number : goal.invariant-loop-number
invariant-loop-number l = l.types ≡ below (λ number. flat_map (function_types (map plain_interface l.all) number) (needed_in l.policy l.uses number)) l.number
