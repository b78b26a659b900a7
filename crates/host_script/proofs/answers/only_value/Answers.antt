use Rattle.std.proofs.Common.{rules}
use Rattle.host_script.proofs.Parts.{more_values}
use Rattle.host_script.proofs.answers.only_value.Goals as goal

pub returns : goal.returns
returns c = rw c.in-Some.ensures.removal (more_values (c.in-Some.name, c.in-Some.json) c.pop_first.new.self.entries (λ e. search (rules, c.if-is_empty.ensures, c.if-is_empty.false, c.is_empty.ensures, e)))
