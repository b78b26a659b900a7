use Rattle.std.proofs.Common.{◌≡◌, drop, length}
use Rattle.std.specs.Vec.Iter.{into_iter_items}
use Rattle.serde_json.specs.View.{items_view, members_view}
use Rattle.wit_types.specs.Plain.{plain, fields_of, types_of}
use Rattle.wit_types.specs.PlainValue.{values_of}
use Rattle.host_port.specs.Untyped.{reading, each_item, parts_reading, fields_reading}
use Rattle.host_script.specs.Json.{untyped_items, untyped_members}
use Rattle.host_script.proofs.Joins.{then_rest}
use Rattle.host_script.proofs.reading.+read_value.Given as goal

abbrev pub invariant-read_each-loop-json : goal.invariant-read_each-loop-json
invariant-read_each-loop-json l =
    each_item (λ u. reading (plain l.item) u) (untyped_items (items_view l.fn.items.items))
    ≡ then_rest (values_of l.values.items) (each_item (λ u. reading (plain l.item) u) (untyped_items (items_view (into_iter_items l.rest))))

abbrev pub decreases-read_each-loop-json : goal.decreases-read_each-loop-json
decreases-read_each-loop-json l = length (into_iter_items l.rest)

abbrev pub invariant-read_parts-loop-ty : goal.invariant-read_parts-loop-ty
invariant-read_parts-loop-ty l =
    parts_reading (types_of l.types) (untyped_items (items_view l.fn.items.items))
    ≡ then_rest (values_of l.values.items) (parts_reading (types_of (drop l.ty-index l.types)) (untyped_items (items_view (into_iter_items l.rest))))

abbrev pub invariant-read_fields-loop-field : goal.invariant-read_fields-loop-field
invariant-read_fields-loop-field l =
    fields_reading (fields_of l.fields) (untyped_members (members_view l.fn.members.entries))
    ≡ then_rest (values_of l.values.items) (fields_reading (fields_of (drop l.field-index l.fields)) (untyped_members (members_view l.others.entries)))
