use Rattle.std.proofs.Common.{◌∙◌, ap}
use Rattle.comp_grammar.specs.Trees.{plain, plain_section}
use Rattle.comp_grammar.proofs.PlainLemmas.{plain-Nested}
use Rattle.comp_joined.proofs.form.is_component.Goals as goal

pub returns-in-Nested : goal.returns-in-Nested
returns-in-Nested c = λ yes. (c.in-Nested.field-0, plain c.in-Nested.field-1, ap plain_section c.in-Nested.is ∙ plain-Nested c.in-Nested.field-0 c.in-Nested.field-1)
