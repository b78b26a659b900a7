use Rattle.std.proofs.Common.{◌∙◌, sym}
use Rattle.comp_defining.proofs.outer.outer_type.Goals as goal

pub returns-in-Some : goal.returns-in-Some
returns-in-Some c = λ around s h. sym (sym c.in-Some.is ∙ c.in_ok-rule.ensures around s h)

pub returns-in_ok-add_type-in-None : goal.returns-in_ok-add_type-in-None
returns-in_ok-add_type-in-None c = λ around s h. (sym (sym c.in-None.is ∙ c.in_ok-rule.ensures around s h), c.in_ok-add_type-in-None.ensures around s h)
