use Rattle.std.proofs.Common.{◌≡◌, drop}
use Rattle.std.specs.Vec.Iter.{into_iter_items}
use Rattle.serde_json.specs.View.{items_view}
use Rattle.wit_types.specs.Plain.{fields_of}
use Rattle.wit_types.specs.PlainValue.{values_of}
use Rattle.host_port.specs.Untyped.{parts_reading}
use Rattle.host_script.specs.Json.{untyped_items}
use Rattle.host_script.proofs.Joins.{then_rest}
use Rattle.host_script.proofs.reading.read_each_arg.Given as goal

abbrev pub invariant-loop-param : goal.invariant-loop-param
invariant-loop-param l =
    parts_reading (fields_of l.params) (untyped_items (items_view l.fn.items.items))
    ≡ then_rest (values_of l.values.items) (parts_reading (fields_of (drop l.param-index l.params)) (untyped_items (items_view (into_iter_items l.rest))))
