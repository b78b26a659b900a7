use Rattle.std.proofs.lemmas.Result.{IfOk-weaker}
use Rattle.ref_virtual.proofs.FilesInsideLemmas.{row_fixed}
use Rattle.ref_virtual.proofs.opening.open_missing.Goals as goal

pub returns-then-has_flag-clause-inside : goal.returns-then-has_flag-clause-inside
returns-then-has_flag-clause-inside c = IfOk-weaker c.fails.result _ _ (λ row says. λ nodes. row_fixed row _ nodes says) c.fails.ensures

pub returns-else-code-eq-NO_ENTRY-clause-inside : goal.returns-else-code-eq-NO_ENTRY-clause-inside
returns-else-code-eq-NO_ENTRY-clause-inside c = IfOk-weaker c.fails-else-code-eq-NO_ENTRY.result _ _ (λ row says. λ nodes. row_fixed row _ nodes says) c.fails-else-code-eq-NO_ENTRY.ensures
