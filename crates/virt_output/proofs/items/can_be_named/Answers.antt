use Rattle.std.proofs.Common.{arith}
use Rattle.virt_output.proofs.EndLaws.{too_many, few_enough}
use Rattle.virt_output.proofs.items.can_be_named.Goals as goal

pub returns-then-entries-gt-MOST : goal.returns-then-entries-gt-MOST
returns-then-entries-gt-MOST c = too_many c.args.entries.now (omega (arith, c.if-entries-gt-MOST.true))

pub returns : goal.returns
returns c = few_enough c.args.entries.now c.names_are_short.result (omega (arith, c.if-entries-gt-MOST.false)) c.names_are_short.ensures
