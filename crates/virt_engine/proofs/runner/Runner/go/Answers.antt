use Rattle.std.proofs.Common.{map, drop, ◌+◌}
use Rattle.host_script.specs.Script.{call_seen, exports_seen}
use Rattle.virt_engine.proofs.Following.{is_over, came_next, came_done, goes_all, goes_over}
use Rattle.virt_engine.proofs.runner.Runner.go.Goals as goal

pub returns-in_default : goal.returns-in_default
returns-in_default g c = record {
  ends = c.in_ok-made.ensures.ends;
  told = goes_over _ _ (exports_seen c.args.exports.now) (map call_seen c.args.calls.now) (map call_seen c.args.calls.now) c.in_ok-made.made c.args.self.now c.make.new.self (is_over c.in_ok-made.made c.in_default.not-Returned) (c.in_ok-made.ensures.told _ _);
}

pub loop-call-init : goal.loop-call-init
loop-call-init g c =
    came_done _ _ (exports_seen c.args.exports.now) (map call_seen c.args.calls.now) (map call_seen c.args.calls.now) c.in_ok-made.made c.in-Returned.field-0 c.args.self.now c.make.new.self c.in-Returned.is (c.in_ok-made.ensures.told _ _)

pub returns-in_default-end : goal.returns-in_default-end
returns-in_default-end g c = record {
  ends = c.in_ok-end.ensures.ends;
  told =
      goes_over _ _ (exports_seen c.args.exports.now) (map call_seen c.args.calls.now) (map call_seen (drop (c.loop-call.call-index + 1) c.args.calls.now)) c.in_ok-end.end c.args.self.now c.call.new.self (is_over c.in_ok-end.end c.in_default-end.not-Returned)
      (came_next _ _ (exports_seen c.args.exports.now) (map call_seen c.args.calls.now) c.args.calls.now c.loop-call.call-index c.call-item.result c.args.self.now c.loop-call.self c.call.new.self c.in_ok-end.end
      c.loop-call-test.true c.call-item.is c.loop-call.invariant c.in_ok-end.ensures.told);
}

pub loop-call-preserved : goal.loop-call-preserved
loop-call-preserved g c =
    came_done _ _ (exports_seen c.args.exports.now) (map call_seen c.args.calls.now) (map call_seen (drop (c.loop-call.call-index + 1) c.args.calls.now)) c.in_ok-end.end c.in-Returned-end.field-0 c.args.self.now c.call.new.self c.in-Returned-end.is
    (came_next _ _ (exports_seen c.args.exports.now) (map call_seen c.args.calls.now) c.args.calls.now c.loop-call.call-index c.call-item.result c.args.self.now c.loop-call.self c.call.new.self c.in_ok-end.end
    c.loop-call-test.true c.call-item.is c.loop-call.invariant c.in_ok-end.ensures.told)

pub returns-clause-told : goal.returns-clause-told
returns-clause-told g c =
    goes_all _ _ (exports_seen c.args.exports.now) (map call_seen c.args.calls.now) c.args.calls.now c.loop-call.call-index c.args.self.now c.loop-call.self c.loop-call-test.false c.loop-call.invariant
