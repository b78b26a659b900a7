use Rattle.mount_tree.proofs.Stepping as laws
use Rattle.mount_tree.proofs.walking.steps_lead_on.Goals as goal

pub returns-clause-turn : goal.returns-clause-turn
returns-clause-turn c = λ f digits start follow sound within many. laws.steps_on f sound digits start follow within many

pub returns-clause-begin : goal.returns-clause-begin
returns-clause-begin c = λ f digits start follow sound within many. laws.begins_to f sound digits start follow within many

pub returns-clause-end : goal.returns-clause-end
returns-clause-end c = λ f digits start follow sound within many. laws.ends f sound digits start follow within many
