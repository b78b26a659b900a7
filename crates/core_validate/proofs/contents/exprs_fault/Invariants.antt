use Rattle.std.proofs.Common.{◌≡◌, drop}
use Rattle.core_body.specs.Conditions.{lesser}
use Rattle.core_body.specs.Views.{context_at}
use Rattle.core_validate.specs.Faults.{parts_fault}
use Rattle.core_validate.specs.Items.{expressions}
use Rattle.core_validate.proofs.contents.exprs_fault.Given as goal

abbrev pub invariant-loop-expr : goal.invariant-loop-expr
invariant-loop-expr l = lesser l.rule (parts_fault (expressions (context_at l.spaces) l.ty (drop l.expr-index l.exprs))) ≡ parts_fault (expressions (context_at l.spaces) l.ty l.exprs)
