use Rattle.comp_instances.proofs.AlikeLemmas.{alike-pair, alike-same, alike-then}
use Rattle.comp_instances.proofs.giving.give_number.Goals as goal

pub returns-clause-by : goal.returns-clause-by
returns-clause-by c = alike-then _ _ _ (alike-same _ _ c.in_ok-push.ensures.ok) (alike-pair c.args.fresh.now.by c.args.resource c.args.fresh.now.next)
