use Rattle.std.proofs.Common.{◌∙◌, ap, min}
use Rattle.comp_types.specs.Measures.{kind_parts}
use Rattle.comp_validate.proofs.instance_types.is_small.Goals as goal

pub returns : goal.returns
returns c = λ e h. c.are_within.ensures e.depth (kind_parts e.kind) h.depth (c.parts.ensures ∙ ap (λ k. min (kind_parts k) 1000001) h.kind)
