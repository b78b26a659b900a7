use Rattle.std.proofs.Common.{◌≡◌, ◌++◌, length}
use Rattle.wasm_ast.specs.JoinedLabels.{AreTexts, behind}
use Rattle.wasm_ast.proofs.joined_labels.JoinedLabels.new.Given as goal

abbrev pub invariant-loop-label : goal.invariant-loop-label
invariant-loop-label l = (l.bytes.items ++ behind l.rest ≡ l.first ++ behind l.more) × (AreTexts l.rest → AreTexts l.more)

abbrev pub decreases-loop-label : goal.decreases-loop-label
decreases-loop-label l = length l.rest
