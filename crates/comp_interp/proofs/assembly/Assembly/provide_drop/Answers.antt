use Rattle.std.proofs.Common.{ap, sym}
use Rattle.comp_types.specs.Added.{takes_one}
use Rattle.comp_link.specs.Linking.{Making, with_canon}
use Rattle.instance_state.specs.Targets.{func_of}
use Rattle.comp_interp.proofs.Failing.{makes_as}
use Rattle.comp_interp.proofs.assembly.Assembly.provide_drop.Goals as goal

pub returns : goal.returns
returns g c =
    makes_as g.H.Host.step (λ (m : Making). with_canon m c.in_ok-ty.ty (func_of c.args.canon)) (λ (m : Making). with_canon m takes_one (func_of c.args.canon)) _ _ _ _ _ _ _
    (λ before m stands. ap (λ ty. with_canon m ty (func_of c.args.canon)) (sym c.in_ok-ty.ensures)) c.provide.ensures
