use Rattle.std.proofs.Common.{◌≡◌, ◌++◌, length}
use Rattle.wasm_ast.proofs.copies.copy_cases.Given as goal

abbrev pub invariant-loop-case : goal.invariant-loop-case
invariant-loop-case l = l.copy ++ l.rest ≡ l.cases

abbrev pub decreases-loop-case : goal.decreases-loop-case
decreases-loop-case l = length l.rest
