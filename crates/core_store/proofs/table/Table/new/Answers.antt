use Rattle.std.proofs.Common.{◌≡◌, ◌<◌, arith, length, ap}
use Rattle.core_store.specs.declared.value.CoreRef.TheVariants.{Null}
use Rattle.core_store.proofs.References.{length_added}
use Rattle.core_store.proofs.table.Table.new.Goals as goal

pub invariant_of-result : goal.invariant_of-result
invariant_of-result c =
    let n = length_added c.new-refs.result.items c.add_refs.new.refs.items c.args.min Null c.in_ok-add_refs.ensures.ok in
    let none : length c.new-refs.result.items ≡ 0 = ap length c.new-refs.ensures.items in
    let few : length c.add_refs.new.refs.items < 4294967296 = omega arith in few
