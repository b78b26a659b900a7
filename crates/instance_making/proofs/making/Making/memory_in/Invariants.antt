use Rattle.std.proofs.Common.{◌≡◌, drop}
use Rattle.comp_link.specs.Linking.{Making as GroupMaking, memory_in}
use Rattle.instance_making.proofs.making.Making.memory_in.Given as goal

abbrev pub invariant-loop-option : goal.invariant-loop-option
invariant-loop-option l = (g : GroupMaking) → memory_in g l.options ≡ memory_in g (drop l.option-index l.options)
