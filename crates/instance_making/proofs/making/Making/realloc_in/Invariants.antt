use Rattle.std.proofs.Common.{◌≡◌, drop}
use Rattle.comp_link.specs.Linking.{Making as GroupMaking, realloc_in}
use Rattle.instance_making.proofs.making.Making.realloc_in.Given as goal

abbrev pub invariant-loop-option : goal.invariant-loop-option
invariant-loop-option l = (g : GroupMaking) → realloc_in g l.options ≡ realloc_in g (drop l.option-index l.options)
