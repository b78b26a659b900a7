use Rattle.std.proofs.Common.{◌≡◌, List, take}
use Rattle.wit_types.specs.Plain.{Name}
use Rattle.comp_link.specs.Linking.{Givens as GroupGivens, Making as GroupMaking, core_find, named_core}
use Rattle.instance_making.specs.Named.{found}
use Rattle.instance_making.specs.Shown.{Stands}
use Rattle.instance_making.proofs.making.Making.name_core_items.Given as goal

abbrev pub invariant-loop-export : goal.invariant-loop-export
invariant-loop-export l = (made : List GroupGivens) (g : GroupMaking) → Stands made l.fn.self g → (q : Name) → found l.items q ≡ core_find q (named_core g (take l.export-index l.exports))
