use Rattle.comp_inside.proofs.Planned.{spaces_inside, planned_inside}
use Rattle.comp_inside.proofs.laws.components_are_planned_inside_as_alone.Goals as goal

pub returns-clause-spaces : goal.returns-clause-spaces
returns-clause-spaces c = spaces_inside

pub returns-clause-plans : goal.returns-clause-plans
returns-clause-plans c = planned_inside
