use Rattle.std.proofs.Common.{List, length}
use Rattle.wasm_ast.specs.declared.component.Section.{Section}
use Rattle.comp_joined.specs.Form.{IsPast}
use Rattle.comp_joined.proofs.form.past_names.Given as goal

abbrev pub invariant-loop-first : goal.invariant-loop-first
invariant-loop-first l = (end : List Section) → IsPast l.rest end → IsPast l.sections end

abbrev pub decreases-loop-first : goal.decreases-loop-first
decreases-loop-first l = length l.rest
