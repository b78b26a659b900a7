use Rattle.std.proofs.Common.{take}
use Rattle.std.specs.List.{All}
use Rattle.adapter_stubs.specs.Bodies.{IsStub}
use Rattle.adapter_rows.proofs.sound.are_stubs.Given as goal

abbrev pub invariant-loop-stub : goal.invariant-loop-stub
invariant-loop-stub l = All IsStub (take l.stub-index l.stubs)
