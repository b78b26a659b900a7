use Rattle.std.proofs.Common.{◌∙◌, ap}
use Rattle.comp_types.specs.GivenResources.{is_among}
use Rattle.type_relations.proofs.OnceLemmas.{set-has}
use Rattle.type_relations.proofs.resources.Resources.has.Goals as goal

pub returns : goal.returns
returns c = set-has _ c.args.resource _ c.contains.ensures ∙ ap (λ ks. is_among ks c.args.resource) c.self.view_is
