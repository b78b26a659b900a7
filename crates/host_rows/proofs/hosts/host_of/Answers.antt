use Rattle.mount_tree.proofs.BuiltTexts.{built_texts}
use Rattle.host_rows.proofs.hosts.host_of.Goals as goal

pub new-requires-clause-texts : goal.new-requires-clause-texts
new-requires-clause-texts c = built_texts c.in_ok-trees.trees c.in_ok-trees.ensures
