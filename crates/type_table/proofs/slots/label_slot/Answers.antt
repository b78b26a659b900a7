use Rattle.std.proofs.Common.{◌∙◌, ap, Some, None}
use Rattle.wit_types.specs.Plain.{Name}
use Rattle.type_table.proofs.SlotLemmas.{got-none, got-some, label-slots}
use Rattle.type_table.proofs.slots.label_slot.Goals as goal

pub returns-in-None : goal.returns-in-None
returns-in-None c = got-none (λ (label : Name). (label, None)) _ c.get.result c.args.labels.now c.args.index (label-slots c.args.labels.now c.args.index) c.get.ensures.lookup.0 c.get.ensures.lookup.1 c.in-None.is

pub returns-in-Some : goal.returns-in-Some
returns-in-Some c = ap (λ (n : Name). Some (n, None)) c.bytes.ensures.value ∙ got-some (λ (label : Name). (label, None)) _ c.get.result c.args.labels.now c.args.index c.in-Some.label (label-slots c.args.labels.now c.args.index) c.get.ensures.lookup.0 c.get.ensures.lookup.1 c.in-Some.is
