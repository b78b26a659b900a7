use Rattle.std.proofs.Common.{◌≡◌, ◌++◌, drop, map}
use Rattle.wasi_table.specs.Plain.{plain_named_func}
use Rattle.adapter_world.specs.Needed.{func_name, needed_from}
use Rattle.adapter_world.proofs.functions.needed_functions.Given as goal

abbrev pub invariant-loop-place : goal.invariant-loop-place
invariant-loop-place l =
    l.names ++ map func_name (needed_from l.policy l.uses l.interface l.place (map plain_named_func (drop l.place l.functions)))
    ≡ map func_name (needed_from l.policy l.uses l.interface 0 (map plain_named_func l.functions))
