use Rattle.mount_tree.proofs.Searching as laws
use Rattle.mount_tree.proofs.halves.halves_find_the_child.Goals as goal

pub returns-clause-finds : goal.returns-clause-finds
returns-clause-finds c = laws.finds

pub returns-clause-one : goal.returns-clause-one
returns-clause-one c = laws.one

pub returns-clause-leads : goal.returns-clause-leads
returns-clause-leads c = laws.leads
