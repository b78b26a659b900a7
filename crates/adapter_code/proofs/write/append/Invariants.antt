use Rattle.std.proofs.Common.{◌≡◌, ◌++◌, length}
use Rattle.std.specs.Vec.Iter.{into_iter_items, into_iter_len}
use Rattle.adapter_code.proofs.write.append.Given as goal

abbrev pub invariant-loop-statement : goal.invariant-loop-statement
invariant-loop-statement l = record {
  so_far : l.list.items ≡ l.initial.list.items ++ l.yielded;
  rest : l.yielded ++ into_iter_items l.statement-iterator ≡ into_iter_items l.initial.statement-iterator;
  count : into_iter_len l.statement-iterator ≡ length (into_iter_items l.statement-iterator);
}
