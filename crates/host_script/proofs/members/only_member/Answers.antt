use Rattle.std.proofs.Common.{rules}
use Rattle.host_script.proofs.Only.{more_than_one}
use Rattle.host_script.proofs.members.only_member.Goals as goal

pub returns : goal.returns
returns c = rw c.in-Some.ensures.removal (more_than_one c.in-Some.member c.pop_first.new.self.entries (λ e. search (rules, c.if-is_empty.ensures, c.if-is_empty.false, c.is_empty.ensures, e)))
