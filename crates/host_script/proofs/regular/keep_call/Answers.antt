use Rattle.std.proofs.Common.{◌≡◌, length, rules}
use Rattle.std.specs.Prelude.{Ok}
use Rattle.serde_json.specs.View.{view}
use Rattle.host_script.specs.Json.{untyped}
use Rattle.host_script.specs.Script.{call_at, call_by, call_seen, exports_seen, pair_in}
use Rattle.host_script.proofs.CallTypes.{there, typed_more}
use Rattle.host_script.proofs.regular.keep_call.Goals as goal

pub returns-in-Ok-clause-due : goal.returns-in-Ok-clause-due
returns-in-Ok-clause-due c =
    let exports = exports_seen c.args.exports.now in
    let json = c.in_ok-json.json in
    let read : call_at exports (length c.args.calls.now) (untyped (view json)) ≡ Ok (call_seen c.in-Ok.call) = search (rules, c.in-Ok.ensures, c.len.ensures) in
    record {
      given = c.in-Ok.call;
      data' = view json;
      pushed = c.in_ok-push-in-Ok.ensures.ok;
      is = there _ (call_by exports (pair_in (untyped (view json)))) (call_seen c.in-Ok.call) read;
      next = c.in_ok-json.ensures.next;
      shorter = c.in_ok-json.ensures.shorter;
    }

pub returns-in-Ok-clause-typed : goal.returns-in-Ok-clause-typed
returns-in-Ok-clause-typed c = λ all.
    let exports = exports_seen c.args.exports.now in
    let json = c.in_ok-json.json in
    let read : call_at exports (length c.args.calls.now) (untyped (view json)) ≡ Ok (call_seen c.in-Ok.call) = search (rules, c.in-Ok.ensures, c.len.ensures) in
    typed_more exports (length c.args.calls.now) json c.args.calls.now c.push.new.self c.in-Ok.call all read c.in_ok-push-in-Ok.ensures.ok
