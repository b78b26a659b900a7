use Rattle.std.proofs.Common.{◌∙◌, ap, not}
use Rattle.comp_types.specs.Rules.{is_filled}
use Rattle.type_relations.proofs.OnceLemmas.{empty-is}
use Rattle.type_relations.proofs.resources.Resources.is_empty.Goals as goal

pub returns : goal.returns
returns c = c.is_empty.ensures ∙ (empty-is c.as_slice.result.now ∙ ap (λ rs. not (is_filled rs)) c.as_slice.ensures)
