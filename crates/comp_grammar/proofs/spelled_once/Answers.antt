use Rattle.comp_grammar.proofs.DepthLaws as laws
use Rattle.comp_grammar.proofs.spelled_once.Goals as goal

pub returns : goal.returns
returns c = laws.spelled_once
