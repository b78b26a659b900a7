use Rattle.comp_grammar.proofs.DepthLaws as laws
use Rattle.comp_grammar.proofs.depth_stands_apart.Goals as goal

pub returns-clause-within : goal.returns-clause-within
returns-clause-within c = laws.within

pub returns-clause-bounded : goal.returns-clause-bounded
returns-clause-bounded c = laws.at_its_depth
