use Rattle.std.proofs.Common.{◌≡◌, ◌∙◌, map, length, sym, rules}
use Rattle.std.specs.Vec.Iter.{into_iter_items}
use Rattle.serde_json.specs.View.{view, items_view}
use Rattle.host_script.specs.Json.{untyped, untyped_items}
use Rattle.host_script.specs.Script.{call_at, each_at, call_seen, exports_seen}
use Rattle.host_script.proofs.Parts.{each_next, each_wrong, each_done, fault_kept}
use Rattle.host_script.proofs.calls.read_calls.Goals as goal

pub loop-json-preserved : goal.loop-json-preserved
loop-json-preserved c =
    c.loop-json.invariant
    ∙ each_next (call_at (exports_seen c.args.exports.now)) call_seen (into_iter_items c.loop-json.rest) c.in-Some.json (into_iter_items c.next.new.self) c.loop-json.calls c.push.new.self c.in_ok-call.call
    c.in-Some.ensures.items (search (rules, c.in_ok-call.ensures, c.len.ensures)) c.in_ok-push.ensures.ok

pub returns : goal.returns
returns c =
    let none : length (into_iter_items c.loop-json.rest) ≡ 0 = sym c.loop-json.rest.rest.ok.0 ∙ search (rules, c.in_default.ensures.cases, c.in_default.is, c.in_default.not-Some) in
    c.loop-json.invariant ∙ each_done (call_at (exports_seen c.args.exports.now)) call_seen (into_iter_items c.loop-json.rest) c.loop-json.calls none

pub returns-in_err-call : goal.returns-in_err-call
returns-in_err-call c =
    let read = call_at (exports_seen c.args.exports.now) in
    fault_kept call_seen (λ calls. map call_seen calls) (read (length c.loop-json.calls) (untyped (view c.in-Some.json))) (each_at read 0 (untyped_items (items_view c.args.items.items))) c.in_err-call.field-0.0 c.from_residual.result
    (search (rules, c.in_err-call.ensures, c.len.ensures)) (search (rules, c.from_residual.ensures))
    (λ x wrong. c.loop-json.invariant ∙ each_wrong read call_seen (into_iter_items c.loop-json.rest) c.in-Some.json (into_iter_items c.next.new.self) c.loop-json.calls x c.in-Some.ensures.items wrong)
