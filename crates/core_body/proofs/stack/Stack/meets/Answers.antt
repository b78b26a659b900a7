use Rattle.std.proofs.Common.{sym, ap, is_some, true}
use Rattle.core_body.proofs.stack.Stack.meets.Goals as goal

pub returns-in-Differs : goal.returns-in-Differs
returns-in-Differs c = sym (ap is_some (c.in-Differs.ensures.met true))

pub returns-in-Short : goal.returns-in-Short
returns-in-Short c = sym (ap is_some (c.in-Short.ensures.met true))

pub returns-in-Left : goal.returns-in-Left
returns-in-Left c = sym (ap is_some (c.in-Left.ensures.met true))
