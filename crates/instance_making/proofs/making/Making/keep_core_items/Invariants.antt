use Rattle.std.proofs.Common.{◌≡◌, take}
use Rattle.wit_types.specs.Plain.{Name}
use Rattle.comp_link.specs.Linking.{core_find}
use Rattle.instance_making.specs.Named.{found}
use Rattle.instance_making.proofs.making.Making.keep_core_items.Given as goal

abbrev pub invariant-loop-export : goal.invariant-loop-export
invariant-loop-export l = (q : Name) → found l.items q ≡ core_find q (take l.export-index l.exports)
