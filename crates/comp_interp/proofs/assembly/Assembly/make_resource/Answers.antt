use Rattle.std.proofs.Common.{◌∙◌}
use Rattle.comp_calls.specs.Moments.{at}
use Rattle.comp_interp.proofs.Entering.{resource_made}
use Rattle.comp_interp.proofs.assembly.Assembly.make_resource.Goals as goal

pub returns-in_default : goal.returns-in_default
returns-in_default g c = λ before gm stages ga idle e. λ G. tt

pub returns : goal.returns
returns g c = λ before gm stages ga idle e.
    let m = at g.H.Host.kept c.args.self.now.world in
    resource_made g.H.Host.step before _ m c.args.making.now gm ga idle c.args.resource c.args.destructor c.destructor_at-destructor.result (c.destructor_at-destructor.ensures before gm ga.stands) c.push.new.self c.in_ok-push.ensures.items c.keep_resource.new.self stages
    (c.in_ok-keep_resource.ensures before gm c.args.destructor (c.in-Some.ensures ∙ ga.whole.next) ga.stands) e
