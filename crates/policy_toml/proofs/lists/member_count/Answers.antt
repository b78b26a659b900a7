use Rattle.std.proofs.Common.{◌∙◌}
use Rattle.policy_toml.proofs.Counts.{member_count-view}
use Rattle.policy_toml.proofs.lists.member_count.Goals as goal

pub returns : goal.returns
returns c = c.len.ensures.len ∙ member_count-view c.args.table.now.entries
