use Rattle.std.proofs.Common.{◌≡◌, ◌∙◌, ap, sym, subst, [], Bor, Global, Option, option_map}
use Rattle.std.specs.declared.rc.Rc.{Rc}
use Rattle.wit_types.specs.declared.types.WitType.TheVariants.{Result as Outcome}
use Rattle.wit_types.specs.Plain.{Plain, Parts, VariantType, AsResult, End, plain, payload_of, case_part}
use Rattle.wit_types.proofs.PlainLemmas.{plain-Result}
use Rattle.comp_facts.specs.Facts.{IsFactsOf}
use Rattle.comp_facts.specs.Keys.{keys_of}
use Rattle.comp_types.specs.Known.{AreKnownOf}
use Rattle.type_table.specs.Retyped.{and_slot}
use Rattle.type_table.proofs.RebuiltLemmas.{two-slots}
use Rattle.type_table.proofs.rebuilt.result_as.Goals as goal

pub new-requires-clause-facts : goal.new-requires-clause-facts
new-requires-clause-facts c =
    let p = option_map (λ (part : Bor (Rc Plain Global)). part.now.value) c.args.ok in
    let q = option_map (λ (part : Bor (Rc Plain Global)). part.now.value) c.args.error in
    let a = c.in_ok-shared_payload.field-0 in
    let b = c.in_ok-shared_payload-2.field-0 in
    let ps = case_part [] p (case_part [] q End) in
    let known : AreKnownOf ps c.add_slot-2.new.known = subst (λ (x : Parts). AreKnownOf x c.add_slot-2.new.known) (two-slots p q) (c.in_ok-add_slot-2.ensures (and_slot End [] p) (c.in_ok-add_slot.ensures End c.none-known.ensures)) in
    let is : plain (Outcome a b) ≡ VariantType AsResult ps =
    plain-Result a b
    ∙ (ap (λ (o : Option Plain). VariantType AsResult (case_part [] o (case_part [] (payload_of b) End))) c.in_ok-shared_payload.ensures ∙ ap (λ (o : Option Plain). VariantType AsResult (case_part [] p (case_part [] o End))) c.in_ok-shared_payload-2.ensures) in
    subst (λ (t : Plain). IsFactsOf t c.variant-facts.result) (sym is) (c.variant-facts.ensures ps known.facts)

pub new-requires-clause-keys : goal.new-requires-clause-keys
new-requires-clause-keys c =
    let p = option_map (λ (part : Bor (Rc Plain Global)). part.now.value) c.args.ok in
    let q = option_map (λ (part : Bor (Rc Plain Global)). part.now.value) c.args.error in
    let a = c.in_ok-shared_payload.field-0 in
    let b = c.in_ok-shared_payload-2.field-0 in
    let ps = case_part [] p (case_part [] q End) in
    let known : AreKnownOf ps c.add_slot-2.new.known = subst (λ (x : Parts). AreKnownOf x c.add_slot-2.new.known) (two-slots p q) (c.in_ok-add_slot-2.ensures (and_slot End [] p) (c.in_ok-add_slot.ensures End c.none-known.ensures)) in
    let is : plain (Outcome a b) ≡ VariantType AsResult ps =
    plain-Result a b
    ∙ (ap (λ (o : Option Plain). VariantType AsResult (case_part [] o (case_part [] (payload_of b) End))) c.in_ok-shared_payload.ensures ∙ ap (λ (o : Option Plain). VariantType AsResult (case_part [] p (case_part [] o End))) c.in_ok-shared_payload-2.ensures) in
    known.keys ∙ ap keys_of (sym is)
