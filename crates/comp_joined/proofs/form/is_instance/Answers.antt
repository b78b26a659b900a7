use Rattle.std.proofs.Common.{◌∙◌, ap, sym}
use Rattle.comp_grammar.specs.Trees.{Instances, plain_section}
use Rattle.comp_grammar.proofs.PlainLemmas.{plain-Instances}
use Rattle.comp_joined.proofs.form.is_instance.Goals as goal

pub returns-in-Instances : goal.returns-in-Instances
returns-in-Instances c = λ yes.
    let one = c.is_one.ensures yes in
    (one.0, ap plain_section c.in-Instances.is ∙ plain-Instances c.in-Instances.items ∙ ap Instances (sym c.as_slice.ensures ∙ one.1))
