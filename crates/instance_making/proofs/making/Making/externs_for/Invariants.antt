use Rattle.std.proofs.Common.{◌≡◌, List, take}
use Rattle.std.specs.List.{flat_map}
use Rattle.wit_types.specs.Plain.{Name}
use Rattle.comp_link.specs.Linking.{Givens as GroupGivens, Making as GroupMaking, extern_for}
use Rattle.instance_making.specs.Named.{found}
use Rattle.instance_making.specs.Shown.{Stands}
use Rattle.instance_making.proofs.CoreLemmas.{arg_number}
use Rattle.instance_making.proofs.making.Making.externs_for.Given as goal

abbrev pub invariant-loop-arg : goal.invariant-loop-arg
invariant-loop-arg l = (q : Name) → found l.instances q ≡ arg_number q (take l.arg-index l.args)

abbrev pub invariant-loop-import : goal.invariant-loop-import
invariant-loop-import l = (made : List GroupGivens) (g : GroupMaking) → Stands made l.self g → l.externs ≡ flat_map (extern_for g l.fn.args) (take l.import-index l.fn.«module».imports)
