use Rattle.std.proofs.Common.{◌≡◌, [], length, Some, refl}
use Rattle.std.specs.Prelude.{slice_get}
use Rattle.std.proofs.lemmas.Option.{slice_get_read}
use Rattle.comp_calls.specs.Moments.{at}
use Rattle.call_moments.proofs.Insides.{has_frames, has_instance, gets_results}
use Rattle.call_moments.proofs.Resuming.{resume_leads}
use Rattle.comp_calls.proofs.world.World.resume.Goals as goal

pub returns-in_err-number-clause-leads : goal.returns-in_err-number-clause-leads
returns-in_err-number-clause-leads g c = λ G waiting w. absurd (has_frames g.H.Host.step G (at g.H.Host.kept c.args.self.now) waiting (length c.args.results.now) [] w c.in_err-number.field-0.0 c.in_err-number.ensures)

pub returns-in_default-clause-leads : goal.returns-in_default-clause-leads
returns-in_default-clause-leads g c = λ G waiting w. absurd (has_instance g.H.Host.step G (at g.H.Host.kept c.args.self.now) waiting (length c.args.results.now) [] w c.in_ok-number.number c.in_ok-number.ensures c.in_default.ensures.item.3)

pub returns-in_err-resume-clause-leads : goal.returns-in_err-resume-clause-leads
returns-in_err-resume-clause-leads g c = λ G waiting w.
    let is = c.args.self.now.instances.items in
    let found : slice_get is c.in_ok-number.number ≡ Some c.in-Some.instance.now = slice_get_read is (length is) c.in_ok-number.number c.in-Some.instance.now refl c.in-Some.ensures.item.3.0 c.in-Some.ensures.value in
    absurd (gets_results g.H.Host.step G (at g.H.Host.kept c.args.self.now) waiting c.args.results.now w c.in_ok-number.number c.in-Some.instance.now c.resume.new.self c.in_err-resume.field-0.0 found c.in_ok-number.ensures c.in_err-resume.ensures)

pub returns-clause-leads : goal.returns-clause-leads
returns-clause-leads g c = λ G waiting w.
    let is = c.args.self.now.instances.items in
    let i = c.in-Some.instance.now in
    let found : slice_get is c.in_ok-number.number ≡ Some i = slice_get_read is (length is) c.in_ok-number.number i refl c.in-Some.ensures.item.3.0 c.in-Some.ensures.value in
    resume_leads g.H.Host.step G (at g.H.Host.kept c.args.self.now) c.in_ok-number.number i (record { code = c.resume.new.self; handles = i.handles; entered = i.entered; closed = i.closed }) found refl c.in_ok-number.ensures c.args.results.now c.in_ok-resume.ensures waiting w
