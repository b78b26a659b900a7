use Rattle.std.specs.List.{All}
use Rattle.adapter_stubs.specs.Bodies.{IsStub}
use Rattle.routine_rows.proofs.stubs.stubs.Given as goal

abbrev pub invariant-loop-line : goal.invariant-loop-line
invariant-loop-line l = All IsStub l.all.items
