use Rattle.abi_load.specs.Loaded.{bytes_at}
use Rattle.abi_load.specs.Lifted.{words}
use Rattle.abi_load.proofs.Lifts.{ok_typed}
use Rattle.abi_load.proofs.lifting.lift_flat.Goals as goal

pub returns-clause-typed : goal.returns-clause-typed
returns-clause-typed c = ok_typed (bytes_at c.args.store.now c.args.memory) c.args.ty.now (words c.as_slice.result.now) 0 c.lift_at.result c.lift_at.ensures.ok
