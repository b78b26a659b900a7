use Rattle.type_relations.proofs.OnceLemmas.{once-set}
use Rattle.type_relations.proofs.search.Search.mark.Goals as goal

pub returns-clause-searched : goal.returns-clause-searched
returns-clause-searched c = once-set _ _ c.args.at c.in_ok-insert.ensures.keys
