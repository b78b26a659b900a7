use Rattle.core_memory.proofs.pages.+read_slowly.Given as goal

abbrev pub decreases-read_slowly : goal.decreases-read_slowly
decreases-read_slowly l = l.width
