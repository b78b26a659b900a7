use Rattle.std.proofs.Common.{◌≡◌, ◌∙◌, ◌≤◌, List, length, Some, Err, refl, sym, subst}
use Rattle.std.specs.Prelude.{slice_get}
use Rattle.std.proofs.lemmas.Option.{slice_get_read}
use Rattle.comp_worlds.specs.Groups.{ResourceRep}
use Rattle.instance_state.specs.declared.instance.Instance.{Instance}
use Rattle.call_moments.specs.declared.end.Stop.TheVariants as stops
use Rattle.comp_calls.specs.Moments.{at}
use Rattle.call_moments.proofs.Dropping.{reads_none, performs_there, reads_fails, reads_leads}
use Rattle.comp_calls.proofs.world.World.resource_rep.Goals as goal

pub returns-in_err-index-clause-leads : goal.returns-in_err-index-clause-leads
returns-in_err-index-clause-leads g c = λ e.
    let old = at g.H.Host.kept c.args.self.now in
    reads_none g.H.Host.step old c.args.number c.args.args.now c.args.resource e (sym c.only_word.ensures ∙ c.in_err-index.ensures.ok_part) c.from_residual.result old

pub returns-in_default-clause-leads : goal.returns-in_default-clause-leads
returns-in_default-clause-leads g c = λ e.
    let old = at g.H.Host.kept c.args.self.now in
    performs_there g.H.Host.step old c.args.number c.args.args.now (ResourceRep c.args.resource) e (subst (λ (is : List Instance). length is ≤ c.args.number) c.deref.ensures.value c.in_default.ensures.lookup.3) (Err stops.Trapped) old

pub returns-in_err-rep-clause-leads : goal.returns-in_err-rep-clause-leads
returns-in_err-rep-clause-leads g c = λ e.
    let old = at g.H.Host.kept c.args.self.now in
    let i = c.in-Some.instance.now in
    let is = c.deref.result.now in
    let found : slice_get old.instances c.args.number ≡ Some i =
    subst (λ (xs : List Instance). slice_get xs c.args.number ≡ Some i) c.deref.ensures.value (slice_get_read is (length is) c.args.number i refl c.in-Some.ensures.lookup.3.0 c.in-Some.ensures.lookup.1) in
    reads_fails g.H.Host.step old c.args.number c.args.args.now c.in_ok-index.index (sym c.only_word.ensures ∙ c.in_ok-index.ensures.ok_part) i found c.args.resource e c.owns-owns.result c.owns-owns.ensures old c.from_residual-in_err-rep.result
    c.in_err-rep.ensures refl c.from_residual-in_err-rep.ensures.1

pub returns-clause-leads : goal.returns-clause-leads
returns-clause-leads g c = λ e.
    let old = at g.H.Host.kept c.args.self.now in
    let i = c.in-Some.instance.now in
    let is = c.deref.result.now in
    let found : slice_get old.instances c.args.number ≡ Some i =
    subst (λ (xs : List Instance). slice_get xs c.args.number ≡ Some i) c.deref.ensures.value (slice_get_read is (length is) c.args.number i refl c.in-Some.ensures.lookup.3.0 c.in-Some.ensures.lookup.1) in
    reads_leads g.H.Host.step old c.args.number c.args.args.now c.in_ok-index.index (sym c.only_word.ensures ∙ c.in_ok-index.ensures.ok_part) i found c.args.resource e c.owns-owns.result c.owns-owns.ensures c.in_ok-rep.rep _
    (at g.H.Host.kept c.resume-2.new.self) c.resume-2.result c.in_ok-rep.ensures c.in_ok-one_word.ensures c.resume-2.ensures.leads
