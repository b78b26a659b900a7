use Rattle.std.proofs.Common.{[], Some}
use Rattle.wit_types.specs.declared.types.WitType.{WitType}
use Rattle.wit_types.specs.Plain.{plain}
use Rattle.type_table.proofs.SlotLemmas.{got-none, got-some, type-slots}
use Rattle.type_table.proofs.slots.type_slot.Goals as goal

pub returns-in-None : goal.returns-in-None
returns-in-None c = got-none (λ (t : WitType). ([], Some (plain t))) _ c.get.result c.args.types.now c.args.index (type-slots c.args.types.now c.args.index) c.get.ensures.lookup.0 c.get.ensures.lookup.1 c.in-None.is

pub returns-in-Some : goal.returns-in-Some
returns-in-Some c = got-some (λ (t : WitType). ([], Some (plain t))) _ c.get.result c.args.types.now c.args.index c.in-Some.ty (type-slots c.args.types.now c.args.index) c.get.ensures.lookup.0 c.get.ensures.lookup.1 c.in-Some.is
