use Rattle.std.proofs.Common.{◌<◌, arith, length}
use Rattle.core_store.proofs.References.{length_added}
use Rattle.core_store.proofs.table.Table.grow.Goals as goal

pub invariant_of-self-2 : goal.invariant_of-self-2
invariant_of-self-2 c =
    let n = length_added c.self.inside.refs.items c.add_refs.new.refs.items c.args.by c.args.value c.in_ok-add_refs.ensures.ok in
    let few : length c.add_refs.new.refs.items < 4294967296 = omega arith in few
