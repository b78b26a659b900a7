use Rattle.std.proofs.Common.{◌≡◌, ◌++◌, map, length, Ok}
use Rattle.std.specs.Vec.Iter.{into_iter_items}
use Rattle.serde_json.specs.View.{items_view}
use Rattle.host_script.specs.Json.{untyped_items}
use Rattle.host_script.specs.Script.{and_then, each_at, call_at, call_seen, exports_seen}
use Rattle.host_script.proofs.calls.read_calls.Given as goal

abbrev pub invariant-loop-json : goal.invariant-loop-json
invariant-loop-json l =
    each_at (call_at (exports_seen l.exports)) 0 (untyped_items (items_view l.fn.items.items))
    ≡ and_then (each_at (call_at (exports_seen l.exports)) (length l.calls) (untyped_items (items_view (into_iter_items l.rest)))) (λ later. Ok (map call_seen l.calls ++ later))

abbrev pub decreases-loop-json : goal.decreases-loop-json
decreases-loop-json l = length (into_iter_items l.rest)
