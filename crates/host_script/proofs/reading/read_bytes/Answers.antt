use Rattle.std.proofs.Common.{◌≡◌, ◌∙◌, ◌+◌, ◌∷◌, pos, drop, ap, sym, arith}
use Rattle.std.specs.Prelude.{Some}
use Rattle.std.proofs.lemmas.List.{drop_more, drop_all}
use Rattle.wit_types.specs.PlainValue.{byte_values}
use Rattle.host_port.specs.Untyped.{each_item, integer_in}
use Rattle.host_script.proofs.Joins.{each_byte_more, all_read, then_rest, seen}
use Rattle.host_script.proofs.reading.read_bytes.Goals as goal

pub loop-json-preserved : goal.loop-json-preserved
loop-json-preserved c =
    let items = c.args.items.now in
    let i = c.loop-json.json-index in
    let x = c.json-item.result in
    let next : drop i items ≡ x ∷ drop (i + 1) items = drop_more items i x c.loop-json-test.true ∙ ap (λ y. y ∷ drop (i + 1) items) (sym c.json-item.is) in
    c.loop-json.invariant
    ∙ each_byte_more (λ u. integer_in (pos 0) (pos 0x100) u) (drop i items) x (drop (i + 1) items) c.loop-json.bytes.items c.push.new.self.items c.in_ok-byte_in.field-0 next c.in_ok-byte_in.ensures c.in_ok-push.ensures.items

pub returns : goal.returns
returns c =
    let read = c.loop-json.invariant
    ∙ (ap (λ xs. then_rest (byte_values c.loop-json.bytes.items) (each_item (λ u. integer_in (pos 0) (pos 0x100) u) (seen xs))) (drop_all c.loop-json.json-index c.args.items.now (omega (arith, c.loop-json-test.false)))
    ∙ all_read (byte_values c.loop-json.bytes.items)) in
    read ∙ ap (λ bs. Some (byte_values bs)) (sym c.new.ensures)
