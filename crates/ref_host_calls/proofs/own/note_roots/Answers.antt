use Rattle.std.proofs.Common.{arith}
use Rattle.ref_host_calls.proofs.OfferLemmas.{few_trees}
use Rattle.ref_host_calls.proofs.own.note_roots.Goals as goal

pub overflow_cast-place : goal.overflow_cast-place
overflow_cast-place g c =
    let few = few_trees c.args.trees.now c.requires in
    let inside = c.loop-place-test.true in
    omega arith
