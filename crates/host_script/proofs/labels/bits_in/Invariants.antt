use Rattle.std.proofs.Common.{◌≡◌, ◌+◌, ◌^◌, ◌≤◌, ◌<◌, drop, length}
use Rattle.std.specs.Prelude.{option_map}
use Rattle.serde_json.specs.View.{items_view}
use Rattle.host_port.specs.Untyped.{flags_from}
use Rattle.host_script.specs.Json.{untyped_items}
use Rattle.host_script.proofs.labels.bits_in.Given as goal

abbrev pub invariant-loop-label : goal.invariant-loop-label
invariant-loop-label l = record {
  bit : l.bit ≡ 2 ^ l.label-index;
  bits : l.bits < l.bit;
  few : length l.labels ≤ 32;
  read : l.read ≤ length l.items;
  rest : flags_from 1 l.labels (untyped_items (items_view l.items)) ≡ option_map (λ n. l.bits + n) (flags_from l.bit (drop l.label-index l.labels) (untyped_items (items_view (drop l.read l.items))));
}
