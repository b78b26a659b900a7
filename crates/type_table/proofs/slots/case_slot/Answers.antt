use Rattle.std.proofs.Common.{◌∙◌, ap, Bor, Option, Some, option_map}
use Rattle.wit_types.specs.declared.types.Case.{Case, out-Case}
use Rattle.wit_types.specs.declared.types.WitType.{WitType}
use Rattle.wit_types.specs.Plain.{Name, Plain, plain, payload_of}
use Rattle.type_table.proofs.SlotLemmas.{got-none, got-some, case-slots}
use Rattle.type_table.proofs.slots.case_slot.Goals as goal

pub returns-in-None : goal.returns-in-None
returns-in-None c = got-none (λ (x : Case). ((out-Case x).name, payload_of (out-Case x).ty)) _ c.get.result c.args.cases.now c.args.index (case-slots c.args.cases.now c.args.index) c.get.ensures.lookup.0 c.get.ensures.lookup.1 c.in-None.is

pub returns-in-Some : goal.returns-in-Some
returns-in-Some c =
    let x = c.in-Some.case.now in
    ap (λ (n : Name). Some (n, option_map (λ (t : Bor WitType). plain t.now) c.payload.result)) c.bytes.ensures.value
    ∙ (ap (λ (o : Option Plain). Some ((out-Case x).name, o)) c.payload.ensures
    ∙ got-some (λ (x : Case). ((out-Case x).name, payload_of (out-Case x).ty)) _ c.get.result c.args.cases.now c.args.index c.in-Some.case (case-slots c.args.cases.now c.args.index) c.get.ensures.lookup.0 c.get.ensures.lookup.1 c.in-Some.is)
