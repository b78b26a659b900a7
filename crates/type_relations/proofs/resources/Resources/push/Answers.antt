use Rattle.std.proofs.Common.{◌∙◌, ap}
use Rattle.type_relations.specs.Once.{and_once}
use Rattle.type_relations.proofs.OnceLemmas.{once-set}
use Rattle.type_relations.proofs.resources.Resources.push.Goals as goal

pub returns : goal.returns
returns c = once-set _ _ c.args.resource c.in_ok-insert.ensures.keys ∙ ap (λ ks. and_once ks c.args.resource) c.self.view_is
