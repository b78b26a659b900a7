use Rattle.core_read.proofs.sections.Progress.code.Goals as goal

pub returns-clause-value : goal.returns-clause-value
returns-clause-value c = rw (← c.self.view_is) (rw c.len-count.ensures at c.ranked.ensures.value)
