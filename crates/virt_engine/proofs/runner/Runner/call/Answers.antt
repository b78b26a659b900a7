use Rattle.std.proofs.Common.{refl}
use Rattle.host_script.specs.Script.{call_seen, exports_seen}
use Rattle.virt_engine.proofs.Following.{ok_then, calls_shown}
use Rattle.virt_engine.proofs.runner.Runner.call.Goals as goal

pub returns-clause-told : goal.returns-clause-told
returns-clause-told g c =
    ok_then c.show_end.result
    (λ how shows.
    calls_shown _ _ (exports_seen c.args.exports.now) (call_seen c.args.call.now) c.in_ok-end.end _ c.args.self.now
    (record { run = c.call_export.new.self; lines = c.args.self.now.lines; tally = c.args.self.now.tally; shown = c.args.self.now.shown }) c.show_host.new.self c.show_end.new.self how
    c.result_named.ensures refl refl refl c.in_ok-end.ensures c.in_ok-show_host.ensures shows) c.show_end.ensures.adds
