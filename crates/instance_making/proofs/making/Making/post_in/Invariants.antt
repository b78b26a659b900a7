use Rattle.std.proofs.Common.{◌≡◌, drop}
use Rattle.comp_link.specs.Linking.{Making as GroupMaking, post_in}
use Rattle.instance_making.proofs.making.Making.post_in.Given as goal

abbrev pub invariant-loop-option : goal.invariant-loop-option
invariant-loop-option l = (g : GroupMaking) → post_in g l.options ≡ post_in g (drop l.option-index l.options)
