use Rattle.std.proofs.Common.{◌≡◌, ◌≤◌, ◌+◌, drop}
use Rattle.core_body.specs.Conditions.{lesser, least, code_conditions}
use Rattle.core_body.specs.Faults.{first_labels}
use Rattle.core_body.specs.Levels.{state_at}
use Rattle.core_body.specs.Machine.{run, start}
use Rattle.core_body.specs.Views.{context_of}
use Rattle.core_body.proofs.check.check_code.Given as goal

abbrev pub invariant-loop-instr : goal.invariant-loop-instr
invariant-loop-instr l = record {
  bound : l.labels ≤ l.instr-index + 1;
  rule : lesser l.rule (least (context_of l.scope) (code_conditions l.scope.in_body l.labels (drop l.instr-index l.code)))
      ≡ least (context_of l.scope) (code_conditions l.scope.in_body (first_labels l.scope.in_body) l.code);
  state : run (context_of l.scope) (state_at (context_of l.scope) l.verdict l.p) (drop l.instr-index l.code) ≡ run (context_of l.scope) (start (context_of l.scope)) l.code;
}
