use Rattle.abi_load.specs.Loaded.{bytes_at}
use Rattle.abi_load.proofs.Steps.{ok_typed}
use Rattle.abi_load.proofs.loading.load.Goals as goal

pub returns-clause-typed : goal.returns-clause-typed
returns-clause-typed c = ok_typed (bytes_at c.args.store.now c.args.memory) c.args.ty.now c.args.at c.load_at.result c.load_at.ensures.ok
