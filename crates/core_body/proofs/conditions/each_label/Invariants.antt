use Rattle.std.proofs.Common.{◌≡◌, map, drop}
use Rattle.core_body.specs.Conditions.{least, LabelAt}
use Rattle.core_body.specs.Views.{context_of}
use Rattle.core_body.proofs.conditions.each_label.Given as goal

abbrev pub invariant-loop-n : goal.invariant-loop-n
invariant-loop-n l = least (context_of l.scope) (map (LabelAt l.labels) (drop l.n-index l.ns)) ≡ least (context_of l.scope) (map (LabelAt l.labels) l.ns)
