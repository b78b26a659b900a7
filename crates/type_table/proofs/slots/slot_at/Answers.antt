use Rattle.std.proofs.Common.{ap, sym, slice_get}
use Rattle.type_table.proofs.SlotLemmas.{leaf}
use Rattle.type_table.proofs.slots.slot_at.Goals as goal

pub returns-in_default : goal.returns-in_default
returns-in_default c = sym (ap (λ ps. slice_get ps c.args.index) (leaf c.args.ty.now c.in_default.not-Record c.in_default.not-Tuple c.in_default.not-Variant c.in_default.not-List c.in_default.not-Enum c.in_default.not-Option c.in_default.not-Result).none)
