use Rattle.std.proofs.Common.{◌≡◌, drop}
use Rattle.core_validate.specs.Gather.{gather}
use Rattle.core_validate.specs.Spaces.{marked, functions_in_code}
use Rattle.core_validate.proofs.marks.mark_exprs.Given as goal

abbrev pub invariant-loop-expr : goal.invariant-loop-expr
invariant-loop-expr l = marked (gather functions_in_code (drop l.expr-index l.exprs)) l.marks ≡ marked (gather functions_in_code l.exprs) l.fn.marks
