use Rattle.std.proofs.Common.{◌+◌, ◌≤◌, length, drop, get_or, ap, refl, ◌∙◌, arith}
use Rattle.wit_types.specs.declared.types.Field.{out-Field}
use Rattle.wit_types.specs.Plain.{plain, fields_of}
use Rattle.value_handles.proofs.Turns.{turned_starts, turned_end, values_end, fields_end, fields_turn, fields_count, next_is, next_part, as_long}
use Rattle.ref_host_calls.proofs.arguments.renumber_each.Goals as goal

pub loop-i-init : goal.loop-i-init
loop-i-init c = record { turned = turned_starts _ _; count = omega arith; long = refl }

pub returns-then-i-len : goal.returns-then-i-len
returns-then-i-len c =
    let long = c.loop-i.invariant.long in
    let len = c.len.ensures in
    let past = c.if-i-len.true in
    turned_end c.args.values.items c.loop-i.items.items c.loop-i.i _ _
    (values_end (fields_of (drop c.loop-i.i c.args.params.now)) c.args.values.items c.loop-i.i (drop c.loop-i.at c.args.numbers.now) (let le : length c.args.values.items ≤ c.loop-i.i = omega arith in le)) c.loop-i.invariant.turned

pub renumber-requires : goal.renumber-requires
renumber-requires c =
    let cut = next_is c.args.values.items c.loop-i.items.items c.loop-i.i c.take_item-value.result c.take_item-value.ensures.item c.loop-i.invariant.turned.rest in
    let count = fields_count (fields_of (drop c.loop-i.i c.args.params.now)) (fields_of (drop (c.loop-i.i + 1) c.args.params.now)) _ (plain (out-Field (get_or c.args.params.now c.loop-i.i c.index-params-i.result)).ty) c.args.values.items c.loop-i.i c.loop-i.at _ _ c.take_item-value.result (ap fields_of (next_part c.args.params.now c.loop-i.i c.index-params-i.result c.loop-i-test.true)) cut c.loop-i.invariant.count refl in
    let room = c.requires in
    record { room = omega arith }

pub loop-i-preserved : goal.loop-i-preserved
loop-i-preserved c =
    let cut = next_is c.args.values.items c.loop-i.items.items c.loop-i.i c.take_item-value.result c.take_item-value.ensures.item c.loop-i.invariant.turned.rest in
    record {
      turned =
          fields_turn (fields_of (drop c.loop-i.i c.args.params.now)) (fields_of (drop (c.loop-i.i + 1) c.args.params.now)) _ (plain (out-Field (get_or c.args.params.now c.loop-i.i c.index-params-i.result)).ty) c.args.values.items c.loop-i.items.items c.take_item-value.new.items.items c.put_item.new.items.items c.loop-i.i c.loop-i.at _ c.args.numbers.now
          c.take_item-value.result _ c.renumber.result _ (ap fields_of (next_part c.args.params.now c.loop-i.i c.index-params-i.result c.loop-i-test.true)) c.take_item-value.ensures.item c.take_item-value.ensures.others c.put_item.ensures c.loop-i.invariant.turned c.renumber.ensures.value c.renumber.ensures.next;
      count = fields_count (fields_of (drop c.loop-i.i c.args.params.now)) (fields_of (drop (c.loop-i.i + 1) c.args.params.now)) _ (plain (out-Field (get_or c.args.params.now c.loop-i.i c.index-params-i.result)).ty) c.args.values.items c.loop-i.i c.loop-i.at _ _ c.take_item-value.result (ap fields_of (next_part c.args.params.now c.loop-i.i c.index-params-i.result c.loop-i-test.true)) cut c.loop-i.invariant.count c.renumber.ensures.next;
      long = as_long c.loop-i.items.items c.take_item-value.new.items.items c.put_item.new.items.items c.loop-i.i _ _ c.take_item-value.ensures.others c.put_item.ensures ∙ c.loop-i.invariant.long;
    }

pub returns : goal.returns
returns c = turned_end c.args.values.items c.loop-i.items.items c.loop-i.i _ _ (fields_end c.args.params.now c.args.values.items c.loop-i.i (drop c.loop-i.at c.args.numbers.now) c.loop-i-test.false) c.loop-i.invariant.turned
