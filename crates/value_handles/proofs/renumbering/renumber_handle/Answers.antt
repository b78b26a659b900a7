use Rattle.std.proofs.Common.{sym, ap}
use Rattle.wit_types.specs.PlainValue.{HandleValue}
use Rattle.wit_types.proofs.ValueLemmas.{plain_value-Handle}
use Rattle.value_handles.proofs.Changes.{first_left}
use Rattle.value_handles.proofs.renumbering.renumber_handle.Goals as goal

pub returns-in-Handle-clause-value : goal.returns-in-Handle-clause-value
returns-in-Handle-clause-value c = rw (c.in-Handle.is, plain_value-Handle, plain_value-Handle) (ap HandleValue (sym (first_left c.args.numbers.now c.args.at.now)))
