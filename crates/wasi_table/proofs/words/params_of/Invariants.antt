use Rattle.std.proofs.Common.{◌≡◌, vec_len}
use Rattle.wasi_table.specs.Before.{fields_before}
use Rattle.wasi_table.specs.Words.{operands, types_in}
use Rattle.wasi_table.proofs.words.params_of.Given as goal

abbrev pub invariant-loop-operand : goal.invariant-loop-operand
invariant-loop-operand l = fields_before l.items.items (types_in (operands l.stack.items)) ≡ types_in (operands l.fn.found.items)

abbrev pub decreases-loop-operand : goal.decreases-loop-operand
decreases-loop-operand l = vec_len l.stack
