use Rattle.std.proofs.Common.{arith}
use Rattle.ref_host_calls.proofs.OfferLemmas.{few_trees}
use Rattle.reference_host.proofs.answering.tree_count.Goals as goal

pub overflow_cast-result : goal.overflow_cast-result
overflow_cast-result c = let few = few_trees c.args.trees.now c.requires in let len = c.len.ensures in omega (arith, few, len)
