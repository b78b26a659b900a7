use Rattle.std.proofs.Common.{◌∷◌, ◌∙◌, sym, ap}
use Rattle.core_body.proofs.stack.Stack.peel_part.Goals as goal

pub returns-in-Some-clause-level : goal.returns-in-Some-clause-level
returns-in-Some-clause-level c = sym c.place.ensures.rest ∙ c.in-Some.ensures.found ∙ ap (λ l. c.in-Some.top.operand ∷ l) (sym c.keep.ensures.level)

pub returns-in-None-clause-level : goal.returns-in-None-clause-level
returns-in-None-clause-level c = let none = sym c.place.ensures.rest ∙ c.in-None.ensures.found in (none, none)
