use Rattle.std.proofs.Common.{◌≡◌}
use Rattle.wasi_listed.specs.Listed.{described}
use Rattle.adapter_world.specs.Behind.{below}
use Rattle.inspect_engine.specs.Rows.{rows_of}
use Rattle.inspect_engine.proofs.rows.rows_for.Given as goal

abbrev pub invariant-loop-number : goal.invariant-loop-number
invariant-loop-number l = l.rows ≡ below (λ interface. rows_of l.policy l.uses interface (described interface)) l.number
