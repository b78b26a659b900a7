use Rattle.std.proofs.Common.{◌≡◌, ◌++◌, drop, map}
use Rattle.wasi_table.specs.Plain.{plain_named_func}
use Rattle.inspect_engine.specs.Rows.{rows_from}
use Rattle.inspect_engine.proofs.rows.push_functions.Given as goal

abbrev pub invariant-loop-place : goal.invariant-loop-place
invariant-loop-place l =
    l.rows ++ rows_from l.policy l.uses l.interface l.import l.place (map plain_named_func (drop l.place l.functions))
    ≡ l.fn.rows ++ rows_from l.policy l.uses l.interface l.import 0 (map plain_named_func l.functions)
