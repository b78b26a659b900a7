use Rattle.std.proofs.Common.{◌≡◌, ◌++◌, length}
use Rattle.wasm_ast.specs.JoinedLabels.{AreTexts, labels_in}
use Rattle.wasm_ast.proofs.joined_labels.JoinedLabels.apart.Given as goal

abbrev pub invariant-loop-label : goal.invariant-loop-label
invariant-loop-label l = (l.labels ++ labels_in l.rest ≡ l.self) × AreTexts (labels_in l.rest)

abbrev pub decreases-loop-label : goal.decreases-loop-label
decreases-loop-label l = length l.rest
