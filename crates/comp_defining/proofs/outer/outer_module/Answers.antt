use Rattle.std.proofs.Common.{sym}
use Rattle.comp_defining.proofs.outer.outer_module.Goals as goal

pub returns-in-Some : goal.returns-in-Some
returns-in-Some c = λ around s h. sym (c.in-Some.ensures around s h)

pub returns-in_ok-add_module-in-None : goal.returns-in_ok-add_module-in-None
returns-in_ok-add_module-in-None c = λ around s h. (sym (c.in-None.ensures around s h), c.in_ok-add_module-in-None.ensures around s h)
