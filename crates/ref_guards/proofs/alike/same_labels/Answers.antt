use Rattle.std.proofs.Common.{sym}
use Rattle.ref_guards.proofs.AlikeLemmas.{labels_differ}
use Rattle.ref_guards.proofs.alike.same_labels.Goals as goal

pub returns-then-labels-others : goal.returns-then-labels-others
returns-then-labels-others c = sym (labels_differ _ _ c.if-labels-others.true)
