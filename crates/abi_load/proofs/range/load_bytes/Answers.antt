use Rattle.abi_load.specs.Loaded.{bytes_at}
use Rattle.abi_load.proofs.Runs.{run_is}
use Rattle.abi_load.proofs.range.load_bytes.Goals as goal

pub returns-clause-ok : goal.returns-clause-ok
returns-clause-ok c =
    run_is (bytes_at c.args.store.now c.args.memory) c.args.place c.args.count c.in_ok-bytes.bytes c.as_slice.result.now c.requires.within c.in_ok-bytes.ensures.1 c.as_slice.ensures c.are_small.ensures
