use Rattle.std.proofs.Common.{◌≡◌, ◌+◌, ◌*◌, drop}
use Rattle.adapter_code.specs.Code.{Stop, before, code_of}
use Rattle.adapter_code.proofs.Codes.{size}
use Rattle.adapter_bytes.specs.Spelled.{statements, AreNumbered}
use Rattle.adapter_bytes.proofs.statements.+weigh.Given as goal

abbrev pub invariant-weigh-loop-statement : goal.invariant-weigh-loop-statement
invariant-weigh-loop-statement l = record {
  spent : l.left + statements (code_of l.list) ≡ l.initial.left + statements (code_of (drop l.statement-index l.list));
  numbered : AreNumbered (code_of (drop l.statement-index l.list)) → AreNumbered (code_of l.list);
}

abbrev pub decreases-weigh : goal.decreases-weigh
decreases-weigh l = 4 * size (code_of l.list.now) + 1

abbrev pub decreases-weigh_one : goal.decreases-weigh_one
decreases-weigh_one l = 4 * size (before l.statement.now Stop)
