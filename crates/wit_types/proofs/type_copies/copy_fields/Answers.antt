use Rattle.std.proofs.Common.{arith, ◌≡◌, ◌+◌, ◌∷◌, [], ◌++◌, take, ap, ◌∙◌, sym}
use Rattle.std.proofs.lemmas.Grind.{common_steps}
use Rattle.std.proofs.lemmas.List.{take_more}
use Rattle.wit_types.specs.Plain.{fields_of}
use Rattle.wit_types.specs.declared.types.Fields.{out-roll-Fields}
use Rattle.wit_types.proofs.PlainLemmas.{fields_of-push}
use Rattle.wit_types.proofs.type_copies.copy_fields.Goals as goal

pub loop-field-preserved : goal.loop-field-preserved
loop-field-preserved c =
    let x = c.field-item.result in
    let fields = c.args.fields.now in
    let i = c.loop-field.field-index in
    let more : take (i + 1) fields ≡ take i fields ++ x ∷ [] = take_more fields i x c.loop-field-test.true ∙ ap (λ y. take i fields ++ y ∷ []) (sym c.field-item.is) in
    ap fields_of c.in_ok-push.ensures.items
    ∙ fields_of-push c.loop-field.items.items (take i fields) _ x c.loop-field.invariant c.in_ok-name.ensures c.in_ok-ty.ensures
    ∙ ap fields_of (sym more)

pub returns : goal.returns
returns c = rw out-roll-Fields (grind (arith, common_steps))
