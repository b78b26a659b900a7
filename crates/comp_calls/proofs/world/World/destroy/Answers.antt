use Rattle.std.proofs.Common.{◌==◌, ◌≡◌, Ok, false, inl, inr, refl, sym, ap, subst, arith}
use Rattle.std.proofs.lemmas.Bool.Decides.{nat_tests}
use Rattle.comp_worlds.specs.Locals.{enter}
use Rattle.call_moments.specs.declared.frame.Flow.TheVariants as flows
use Rattle.comp_calls.specs.Moments.{at}
use Rattle.call_moments.specs.Functions.{IsChanged}
use Rattle.call_moments.proofs.Dropping.{destroys_refused, none_runs, begin_stops, code_runs, code_stops}
use Rattle.comp_calls.proofs.Visiting.{Entered, destroys_by}
use Rattle.comp_calls.proofs.world.World.destroy.Goals as goal
use Rattle.comp_calls.proofs.world.World.destroy.Goals.{then-owner-number, else-owner-number+in_ok-enter}

pub returns-in_err-enter-clause-leads : goal.returns-in_err-enter-clause-leads
returns-in_err-enter-clause-leads g c =
    let differ : (c.args.owner.instance == c.args.number) ≡ false = grind (arith, nat_tests, c.if-owner-number.false) in
    destroys_refused g.H.Host.step (at g.H.Host.kept c.args.self.now) c.args.number c.args.depth c.args.owner c.args.rep (at g.H.Host.kept c.enter.new.self) c.from_residual.result differ c.in_err-enter.field-0.0 c.in_err-enter.ensures.does
    c.from_residual.ensures.1

pub returns-in_default-clause-leads : goal.returns-in_default-clause-leads
returns-in_default-clause-leads g c =
    let h = g.H.Host.step in
    let old = at g.H.Host.kept c.args.self.now in
    let mid = at g.H.Host.kept c.if-owner-number.self in
    let new = at g.H.Host.kept c.destroyed.new.self in
    let o = c.args.owner in
    let visit = c.if-owner-number.visit in
    let entered : Entered h old c.args.number c.args.depth o c.args.rep visit mid =
    elim c.if-owner-number.branch [
      | then-owner-number w ↦ inl (w.visit-is, w.if-owner-number.true, ap (at g.H.Host.kept) w.self-is)
      | else-owner-number+in_ok-enter w ↦ inr (w.visit-is, w.if-owner-number.false, subst (λ x. IsChanged enter o.instance old (at g.H.Host.kept x)) (sym w.self-is) w.in_ok-enter.ensures.does)
    ] in
    destroys_by h old c.args.number c.args.depth o c.args.rep visit mid entered new c.destroyed.result (none_runs h c.args.number o.instance visit c.args.depth c.args.rep mid new o.destructor c.destroyed.result c.in_default.is c.destroyed.ensures.leads)

pub returns-in_err-depth-clause-leads : goal.returns-in_err-depth-clause-leads
returns-in_err-depth-clause-leads g c =
    let h = g.H.Host.step in
    let old = at g.H.Host.kept c.args.self.now in
    let mid = at g.H.Host.kept c.if-owner-number.self in
    let new = at g.H.Host.kept c.begin_call.new.self in
    let o = c.args.owner in
    let visit = c.if-owner-number.visit in
    let result = c.from_residual-in_err-depth.result in
    let entered : Entered h old c.args.number c.args.depth o c.args.rep visit mid =
    elim c.if-owner-number.branch [
      | then-owner-number w ↦ inl (w.visit-is, w.if-owner-number.true, ap (at g.H.Host.kept) w.self-is)
      | else-owner-number+in_ok-enter w ↦ inr (w.visit-is, w.if-owner-number.false, subst (λ x. IsChanged enter o.instance old (at g.H.Host.kept x)) (sym w.self-is) w.in_ok-enter.ensures.does)
    ] in
    destroys_by h old c.args.number c.args.depth o c.args.rep visit mid entered new result
    (begin_stops h c.args.number o.instance visit c.args.depth c.args.rep mid new o.destructor result c.in-Some.destructor c.in-Some.is c.in_err-depth.field-0.0 c.in_err-depth.ensures.begins (ap g.H.Host.kept c.in_err-depth.ensures.host)
    c.from_residual-in_err-depth.ensures.1)

pub returns-in_err-begin_code-clause-leads : goal.returns-in_err-begin_code-clause-leads
returns-in_err-begin_code-clause-leads g c =
    let h = g.H.Host.step in
    let old = at g.H.Host.kept c.args.self.now in
    let mid = at g.H.Host.kept c.if-owner-number.self in
    let begun = at g.H.Host.kept c.begin_call.new.self in
    let new = at g.H.Host.kept c.begin_code.new.self in
    let o = c.args.owner in
    let visit = c.if-owner-number.visit in
    let result = c.from_residual-in_err-begin_code.result in
    let entered : Entered h old c.args.number c.args.depth o c.args.rep visit mid =
    elim c.if-owner-number.branch [
      | then-owner-number w ↦ inl (w.visit-is, w.if-owner-number.true, ap (at g.H.Host.kept) w.self-is)
      | else-owner-number+in_ok-enter w ↦ inr (w.visit-is, w.if-owner-number.false, subst (λ x. IsChanged enter o.instance old (at g.H.Host.kept x)) (sym w.self-is) w.in_ok-enter.ensures.does)
    ] in
    destroys_by h old c.args.number c.args.depth o c.args.rep visit mid entered new result
    (code_stops h c.args.number o.instance visit c.args.depth c.args.rep mid new o.destructor result c.in-Some.destructor c.in-Some.is begun c.in_ok-depth.depth c.in_ok-depth.ensures.begins (ap (at g.H.Host.kept) c.in_ok-depth.ensures.same) c.in_ok-args.args
    c.in_ok-args.ensures c.in_err-begin_code.field-0.0 c.in_err-begin_code.ensures.leads c.from_residual-in_err-begin_code.ensures.1)

pub returns-clause-leads : goal.returns-clause-leads
returns-clause-leads g c =
    let h = g.H.Host.step in
    let old = at g.H.Host.kept c.args.self.now in
    let mid = at g.H.Host.kept c.if-owner-number.self in
    let begun = at g.H.Host.kept c.begin_call.new.self in
    let new = at g.H.Host.kept c.begin_code.new.self in
    let o = c.args.owner in
    let visit = c.if-owner-number.visit in
    let entered : Entered h old c.args.number c.args.depth o c.args.rep visit mid =
    elim c.if-owner-number.branch [
      | then-owner-number w ↦ inl (w.visit-is, w.if-owner-number.true, ap (at g.H.Host.kept) w.self-is)
      | else-owner-number+in_ok-enter w ↦ inr (w.visit-is, w.if-owner-number.false, subst (λ x. IsChanged enter o.instance old (at g.H.Host.kept x)) (sym w.self-is) w.in_ok-enter.ensures.does)
    ] in
    destroys_by h old c.args.number c.args.depth o c.args.rep visit mid entered new (Ok flows.Goes)
    (code_runs h c.args.number o.instance visit c.args.depth c.args.rep mid new o.destructor (Ok flows.Goes) c.in-Some.destructor c.in-Some.is begun c.in_ok-depth.depth c.in_ok-depth.ensures.begins (ap (at g.H.Host.kept) c.in_ok-depth.ensures.same)
    c.in_ok-args.args c.in_ok-args.ensures c.in_ok-begin_code.ensures.leads refl)
