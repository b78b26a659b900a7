use Rattle.toml.specs.View.{table_view}
use Rattle.policy_toml.proofs.PolicyKept.{policy_kept}
use Rattle.policy_toml.proofs.policy.read_policy.Goals as goal

pub returns-in-Ok-clause-kept : goal.returns-in-Ok-clause-kept
returns-in-Ok-clause-kept c = policy_kept (table_view c.in-Ok.table) c.policy_of.result c.policy_of.ensures
