-- A component inside another one makes what it makes alone.
use Rattle.std.proofs.Common.{◌∙◌, ap}
use Rattle.comp_link.specs.Plans.{plan_of}
use Rattle.comp_link.specs.Linking.{link}
use Rattle.comp_inside.specs.Linked.{making_in, unmade, ComponentsLinkInside}
use Rattle.comp_inside.proofs.Planned.{planned_inside}
use Rattle.comp_inside.proofs.Linked.{linked_inside}

pub components_inside : ComponentsLinkInside
components_inside around outside at c stays order knows = ap (λ p. link p (making_in at (unmade c))) (planned_inside around outside at.later c stays) ∙ linked_inside at (plan_of c) (unmade c) order knows
