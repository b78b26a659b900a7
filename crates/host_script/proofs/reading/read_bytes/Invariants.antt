use Rattle.std.proofs.Common.{◌≡◌, pos, drop}
use Rattle.serde_json.specs.View.{items_view}
use Rattle.wit_types.specs.PlainValue.{byte_values}
use Rattle.host_port.specs.Untyped.{each_item, integer_in}
use Rattle.host_script.specs.Json.{untyped_items}
use Rattle.host_script.proofs.Joins.{then_rest}
use Rattle.host_script.proofs.reading.read_bytes.Given as goal

abbrev pub invariant-loop-json : goal.invariant-loop-json
invariant-loop-json l =
    each_item (λ u. integer_in (pos 0) (pos 0x100) u) (untyped_items (items_view l.items))
    ≡ then_rest (byte_values l.bytes.items) (each_item (λ u. integer_in (pos 0) (pos 0x100) u) (untyped_items (items_view (drop l.json-index l.items))))
