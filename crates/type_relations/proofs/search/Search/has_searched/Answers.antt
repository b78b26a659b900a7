use Rattle.type_relations.proofs.OnceLemmas.{set-has}
use Rattle.type_relations.proofs.search.Search.has_searched.Goals as goal

pub returns : goal.returns
returns c = set-has _ c.args.at _ c.contains.ensures
