use Rattle.comp_calls.specs.Moments.{at}
use Rattle.call_moments.proofs.Outer.{start_stops, start_wrong, start_done}
use Rattle.comp_calls.proofs.world.World.start.Goals as goal

pub returns-in_err-begin_code : goal.returns-in_err-begin_code
returns-in_err-begin_code g c = record {
  comes =
      start_stops g.H.Host.step (at g.H.Host.kept c.args.self.now) c.args.number c.args.function c.none.result c.none.ensures _ c.empty-no_args.ensures (at g.H.Host.kept c.begin_code.new.self) c.in_err-begin_code.field-0.0 c.from_residual.result
      c.in_err-begin_code.ensures.leads c.from_residual.ensures.1;
}

pub returns-in_err-go_on : goal.returns-in_err-go_on
returns-in_err-go_on g c = record {
  comes =
      start_wrong g.H.Host.step (at g.H.Host.kept c.args.self.now) c.args.number c.args.function c.none.result c.none.ensures _ c.empty-no_args.ensures (at g.H.Host.kept c.begin_code.new.self) (at g.H.Host.kept c.go_on.new.self)
      c.in_err-go_on.field-0.0 c.from_residual-in_err-go_on.result c.in_ok-begin_code.ensures.leads c.in_err-go_on.ensures.ends c.from_residual-in_err-go_on.ensures.1;
}

pub returns : goal.returns
returns g c = record {
  comes =
      start_done g.H.Host.step (at g.H.Host.kept c.args.self.now) c.args.number c.args.function c.none.result c.none.ensures _ c.empty-no_args.ensures (at g.H.Host.kept c.begin_code.new.self) (at g.H.Host.kept c.go_on.new.self)
      c.in_ok-go_on.field-0 c.in_ok-begin_code.ensures.leads c.in_ok-go_on.ensures.ends;
}
