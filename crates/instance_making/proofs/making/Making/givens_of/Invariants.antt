use Rattle.std.proofs.Common.{List, take}
use Rattle.comp_link.specs.Linking.{Givens as GroupGivens, Making as GroupMaking, givens_of}
use Rattle.comp_link.specs.Planned.{args_named}
use Rattle.instance_making.specs.Made.{Holds}
use Rattle.instance_making.specs.Shown.{Stands}
use Rattle.instance_making.proofs.making.Making.givens_of.Given as goal

abbrev pub invariant-loop-arg : goal.invariant-loop-arg
invariant-loop-arg l = (made : List GroupGivens) (g : GroupMaking) → Stands made l.fn.self g → Holds made l.givens (givens_of g (args_named (take l.arg-index l.args)))
