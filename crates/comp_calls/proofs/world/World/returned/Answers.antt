use Rattle.std.proofs.Common.{◌≡◌, length, Some, refl}
use Rattle.std.specs.Prelude.{slice_get}
use Rattle.std.proofs.lemmas.Option.{slice_get_read}
use Rattle.comp_calls.specs.Moments.{at}
use Rattle.call_moments.proofs.Leaving.{returned_leads}
use Rattle.comp_calls.proofs.world.World.returned.Goals as goal

pub returns-clause-leads : goal.returns-clause-leads
returns-clause-leads g c =
    let is = c.args.self.now.instances.items in
    let i = c.in-Some.instance.now in
    let found : slice_get is c.args.number ≡ Some i = slice_get_read is (length is) c.args.number i refl c.in-Some.ensures.item.3.0 c.in-Some.ensures.value in
    returned_leads g.H.Host.step (at g.H.Host.kept c.args.self.now) (at g.H.Host.kept c.go_back.new.self) c.args.number c.args.back c.go_back.result i c.reopen.new.self c.exit.new.self found c.reopen.ensures.done c.reopen.ensures.code
    c.exit.ensures.done c.exit.ensures.code c.go_back.ensures.leads
