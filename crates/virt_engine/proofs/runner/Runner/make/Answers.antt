use Rattle.std.proofs.Common.{refl}
use Rattle.virt_engine.proofs.Following.{ok_then, is_over, makes_done, makes_over}
use Rattle.virt_engine.proofs.runner.Runner.make.Goals as goal

pub returns-in-Returned-clause-told : goal.returns-in-Returned-clause-told
returns-in-Returned-clause-told g c =
    makes_done _ _ c.in_ok-end.end c.in-Returned.field-0 c.args.self.now (record { run = c.instantiate.new.self; lines = c.args.self.now.lines; tally = c.args.self.now.tally; shown = c.args.self.now.shown }) c.show_host.new.self
    c.in-Returned.is refl refl refl c.in_ok-end.ensures c.in_ok-show_host.ensures

pub returns-in_default : goal.returns-in_default
returns-in_default g c = record {
  ends = c.show_end.ensures.ends;
  told =
      ok_then c.show_end.result
      (λ how shows.
      makes_over _ _ c.in_ok-end.end _ c.args.self.now (record { run = c.instantiate.new.self; lines = c.args.self.now.lines; tally = c.args.self.now.tally; shown = c.args.self.now.shown }) c.show_host.new.self c.show_end.new.self how
      (is_over c.in_ok-end.end c.in_default.not-Returned) refl refl refl c.in_ok-end.ensures c.in_ok-show_host.ensures shows) c.show_end.ensures.adds;
}
