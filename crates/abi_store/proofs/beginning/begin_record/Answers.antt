use Rattle.wit_types.specs.PlainValue.{plain_value, plain_values}
use Rattle.abi_store.proofs.TurnLemmas.{record_fewer}
use Rattle.abi_store.proofs.beginning.begin_record.Goals as goal

pub returns-in_ok-left-in-Some-clause-fewer : goal.returns-in_ok-left-in-Some-clause-fewer
returns-in_ok-left-in-Some-clause-fewer c = record_fewer (plain_value c.args.value) (plain_values c.in-Some.values) c.in_ok-left-in-Some.left.items c.in-Some.ensures.some c.in_ok-left-in-Some.ensures
