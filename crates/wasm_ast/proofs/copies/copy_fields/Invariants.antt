use Rattle.std.proofs.Common.{◌≡◌, ◌++◌, length}
use Rattle.wasm_ast.proofs.copies.copy_fields.Given as goal

abbrev pub invariant-loop-field : goal.invariant-loop-field
invariant-loop-field l = l.copy ++ l.rest ≡ l.fields

abbrev pub decreases-loop-field : goal.decreases-loop-field
decreases-loop-field l = length l.rest
