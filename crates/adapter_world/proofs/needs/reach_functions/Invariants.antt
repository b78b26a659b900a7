use Rattle.std.proofs.Common.{◌≡◌, ◌++◌, drop, map}
use Rattle.std.specs.List.{flat_map}
use Rattle.wasi_table.specs.Plain.{plain_interface, plain_named_func}
use Rattle.adapter_world.specs.Needed.{needed_from}
use Rattle.adapter_world.specs.Behind.{function_types}
use Rattle.adapter_world.proofs.needs.reach_functions.Given as goal

abbrev pub invariant-loop-place : goal.invariant-loop-place
invariant-loop-place l =
    l.types ++ flat_map (function_types (map plain_interface l.all) l.interface) (needed_from l.policy l.uses l.interface l.place (map plain_named_func (drop l.place l.functions)))
    ≡ l.fn.types ++ flat_map (function_types (map plain_interface l.all) l.interface) (needed_from l.policy l.uses l.interface 0 (map plain_named_func l.functions))
