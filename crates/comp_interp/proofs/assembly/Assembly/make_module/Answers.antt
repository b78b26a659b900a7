use Rattle.comp_calls.specs.Moments.{at}
use Rattle.comp_interp.proofs.Instantiated.{comes_fails}
use Rattle.comp_interp.proofs.Starting.{comes_without, comes_with}
use Rattle.comp_interp.proofs.assembly.Assembly.make_module.Goals as goal

pub returns-in_err-instantiate : goal.returns-in_err-instantiate
returns-in_err-instantiate g c =
    comes_fails g.H.Host.step c.args.core_module.now c.args.args.now c.args.self.now.made.items c.instantiate.new.self.made.items (at g.H.Host.kept c.args.self.now.world) (at g.H.Host.kept c.instantiate.new.self.world) c.args.making.now c.instantiate.new.making
    c.in_err-instantiate.field-0.0 c.from_residual.result c.from_residual.ensures.1 c.in_err-instantiate.ensures

pub returns-in-None : goal.returns-in-None
returns-in-None g c =
    comes_without g.H.Host.step c.args.core_module.now c.args.args.now c.args.self.now.made.items c.instantiate.new.self.made.items (at g.H.Host.kept c.args.self.now.world) (at g.H.Host.kept c.instantiate.new.self.world) c.args.making.now c.instantiate.new.making
    c.in_ok-instantiate.field-0 c.in-None.is c.in_ok-instantiate.ensures

pub returns-in-Some : goal.returns-in-Some
returns-in-Some g c =
    comes_with g.H.Host.step c.args.core_module.now c.args.args.now c.args.self.now.made.items c.instantiate.new.self.made.items (at g.H.Host.kept c.args.self.now.world) (at g.H.Host.kept c.instantiate.new.self.world) c.args.making.now c.instantiate.new.making
    c.in_ok-instantiate.field-0 c.in-Some.function c.in-Some.is c.in_ok-instantiate.ensures (at g.H.Host.kept c.start.new.self) c.start.result c.start.ensures.comes
