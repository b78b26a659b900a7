use Rattle.std.proofs.Common.{rules}
use Rattle.host_script.proofs.Parts.{value_taken, value_kept}
use Rattle.host_script.proofs.top.take_value.Goals as goal

pub returns-clause-value : goal.returns-clause-value
returns-clause-value c = value_taken c.args.key.now c.args.members.now.entries c.remove.result (search (rules, c.remove.ensures.value))

pub returns-clause-others : goal.returns-clause-others
returns-clause-others c = λ other differ. value_kept c.args.key.now other c.args.members.now.entries c.remove.new.self.entries (search (rules, c.remove.ensures.entries)) differ
