use Rattle.type_table.proofs.SlotLemmas.{leaf}
use Rattle.type_table.proofs.slots.slot_count.Goals as goal

pub returns-in_default : goal.returns-in_default
returns-in_default c = (leaf c.args.ty.now c.in_default.not-Record c.in_default.not-Tuple c.in_default.not-Variant c.in_default.not-List c.in_default.not-Enum c.in_default.not-Option c.in_default.not-Result).count
