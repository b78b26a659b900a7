use Rattle.abi_store.proofs.Runs.{own_run}
use Rattle.abi_store.proofs.number.is_own_run.Goals as goal

pub returns : goal.returns
returns c = own_run c.args.values.now c.are_small.ensures
