use Rattle.ref_rules.proofs.LiveLemmas.{fresh}
use Rattle.ref_rules.proofs.live.LiveHandles.new.Goals as goal

pub invariant_of-result : goal.invariant_of-result
invariant_of-result c = rw (c.in_ok-numbers.ensures, c.in_ok-kinds.ensures, c.in_ok-reps.ensures, c.in_ok-held.ensures) (fresh c.args.slots c.args.files c.requires)
