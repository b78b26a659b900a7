use Rattle.std.proofs.Common.{◌≡◌, ◌+◌, ◌*◌, ◌++◌, reverse, drop}
use Rattle.adapter_code.specs.Code.{Stop, before, code_of}
use Rattle.adapter_code.proofs.Codes.{size}
use Rattle.adapter_compile.specs.Instructions.{code_in}
use Rattle.adapter_compile.proofs.code.+put_routine.Given as goal

abbrev pub invariant-put_list-loop-statement : goal.invariant-put_list-loop-statement
invariant-put_list-loop-statement l = record {
  code : l.out.items ++ code_in l.widths l.calls (reverse l.initial.labels.items) l.depth (code_of (drop l.statement-index l.list)) ≡ l.initial.out.items ++ code_in l.widths l.calls (reverse l.initial.labels.items) l.depth (code_of l.list);
  labels : l.labels.items ≡ l.initial.labels.items;
}

abbrev pub decreases-put_list : goal.decreases-put_list
decreases-put_list l = 4 * size (code_of l.list.now) + 1

abbrev pub decreases-put_one : goal.decreases-put_one
decreases-put_one l = 4 * size (before l.statement.now Stop)
