use Rattle.std.proofs.Common.{◌≡◌, drop}
use Rattle.std.specs.List.{list_any}
use Rattle.std.specs.Str.{bytes_eq}
use Rattle.ref_answers.proofs.passing.is_set.Given as goal

abbrev pub invariant-loop-variable : goal.invariant-loop-variable
invariant-loop-variable l = list_any (λ s. bytes_eq s.name l.name) (drop l.variable-index l.variables) ≡ list_any (λ s. bytes_eq s.name l.name) l.variables
