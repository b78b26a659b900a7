use Rattle.std.proofs.Common.{◌≡◌, subst, arith}
use Rattle.std.specs.Prelude.{None}
use Rattle.json.specs.Json.{after_end_array}
use Rattle.host_script.specs.Script.{exports_seen}
use Rattle.host_script.specs.Taken.{Takes, IsCall}
use Rattle.host_script.proofs.OnePass.{taken_more}
use Rattle.host_script.proofs.regular.keep_calls.Goals as goal

pub calls-preserved : goal.calls-preserved
calls-preserved c =
    let l = c.calls in
    let is = IsCall (exports_seen c.args.exports.now) in
    let going : (after_end_array l.reader ≡ None) × (c.take_end_array.new.self ≡ l.reader) = grind arith in
    record {
      due = taken_more is l.calls c.keep_call.new.calls c.args.reader.now l.reader c.keep_call.new.reader l.invariant.due going.0
          (subst (λ ts. Takes is l.calls c.keep_call.new.calls ts c.keep_call.new.reader) going.1 c.in_ok-keep_call.ensures.due);
      typed = c.in_ok-keep_call.ensures.typed l.invariant.typed;
    }
