use Rattle.std.proofs.Common.{refl, subst}
use Rattle.comp_link.specs.Groups.{linked_group}
use Rattle.call_moments.specs.Leads.{Ends}
use Rattle.comp_calls.specs.Moments.{at}
use Rattle.comp_interp.specs.Going.{whole_run}
use Rattle.comp_interp.proofs.Coming.{if_ok}
use Rattle.comp_interp.proofs.Serving.{left_ended}
use Rattle.comp_interp.proofs.run.Run.instantiate.Goals as goal

pub returns-in-Err : goal.returns-in-Err
returns-in-Err g c = if_ok c.end_of.result (λ end e linked first budget is.
    let old = c.args.self.now in
    let new = record old { assembly = c.make.new.self } in
    let m = at g.H.Host.kept old.assembly.world in
    left_ended g.H.Host.step g.H.Host.kept old new refl (λ v. tt) (whole_run g.H.Host.step old.linked m) c.in-Err.stop end e
    (subst (λ x. Ends g.H.Host.step (linked_group x) (whole_run g.H.Host.step x m) (at g.H.Host.kept c.make.new.self.world) c.in-Err.stop) c.linked.ensures.linked (c.in-Err.ensures is.made is.instances is.frames)))
    c.end_of.ensures
