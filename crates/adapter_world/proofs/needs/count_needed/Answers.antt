use Rattle.std.proofs.Common.{arith}
use Rattle.adapter_world.proofs.Few.{counted_few, counted_more}
use Rattle.adapter_world.proofs.needs.count_needed.Goals as goal

pub overflow_cast-count : goal.overflow_cast-count
overflow_cast-count c =
    let few = counted_few c.args.policy.now c.args.uses.now c.loop-number.number c.loop-number-test.true in
    omega (arith, few, c.in_ok-more.ensures)

pub overflow_add-count : goal.overflow_add-count
overflow_add-count c =
    let few = counted_few c.args.policy.now c.args.uses.now c.loop-number.number c.loop-number-test.true in
    omega (arith, few, c.in_ok-more.ensures, c.loop-number.invariant)

pub loop-number-preserved : goal.loop-number-preserved
loop-number-preserved c =
    let more = counted_more c.args.policy.now c.args.uses.now c.loop-number.number in
    omega (arith, more, c.in_ok-more.ensures, c.loop-number.invariant)
