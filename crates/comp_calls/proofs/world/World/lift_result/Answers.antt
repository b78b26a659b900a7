use Rattle.std.proofs.Common.{◌≡◌, true, length, Some, Ok, Err, refl, sym, ap, subst, ◌∙◌}
use Rattle.std.specs.Prelude.{slice_get}
use Rattle.std.proofs.lemmas.Option.{slice_get_read}
use Rattle.wit_types.specs.Plain.{plain}
use Rattle.wit_types.specs.PlainValue.{plain_value}
use Rattle.wit_types.specs.HasType.{is_of}
use Rattle.instance_state.specs.Shown.{config_of}
use Rattle.instance_state.specs.Loans.{indexes_of}
use Rattle.instance_state.specs.Passed.{options_of, IsInStore}
use Rattle.instance_state.specs.Targets.{lifting_of}
use Rattle.comp_calls.specs.Moments.{at}
use Rattle.comp_calls.proofs.Lifting.{result_lifts, lift_stops, lends_some, lends_none, holds_some}
use Rattle.call_moments.proofs.Following.{with_instance}
use Rattle.call_moments.proofs.Results.{lift_fails, lift_refused, lift_done}
use Rattle.comp_calls.proofs.world.World.lift_result.Goals as goal
use Rattle.comp_calls.proofs.world.World.lift_result.Goals.{then-not-is_empty-via-then-not-is_empty, then-not-is_empty-via-else-not-is_empty+then-has_borrow}

pub returns-in_err-value-clause-lifts : goal.returns-in_err-value-clause-lifts
returns-in_err-value-clause-lifts g c =
    let old = at g.H.Host.kept c.args.self.now in
    let l = c.args.lifting.now in
    let i = c.in-Some.instance.now in
    let stop = c.in_err-value.field-0.0 in
    let found : slice_get old.instances c.args.number ≡ Some i = slice_get_read old.instances (length old.instances) c.args.number i refl c.in-Some.ensures.item.3.0 c.in-Some.ensures.value in
    let p = c.passed.result.now.result in
    let new = with_instance old c.args.number c.lift_in.new.instance in
    lift_stops g.H.Host.step old new c.args.number (lifting_of l) c.args.results.now stop c.from_residual.result c.from_residual.ensures.1
    (lift_fails g.H.Host.step old c.args.number l c.args.results.now i found new stop (config_of c.lift_in.new.instance) (indexes_of c.lift_in.new.loans.items) refl
    (result_lifts (IsInStore l.options.memory i.code.store) p.most (plain p.ty) l.ty (options_of l.options) c.args.results.now (config_of i) (config_of c.lift_in.new.instance) c.new-loans.result.items
    (indexes_of c.lift_in.new.loans.items) (Err stop) c.passed.ensures.most_flat c.passed.ensures.result c.new-loans.ensures.items c.in_err-value.ensures.lifts))

pub returns-then-not-is_empty-clause-lifts : goal.returns-then-not-is_empty-clause-lifts
returns-then-not-is_empty-clause-lifts g c =
    let old = at g.H.Host.kept c.args.self.now in
    let l = c.args.lifting.now in
    let i = c.in-Some.instance.now in
    let j = c.lift_in.new.instance in
    let found : slice_get old.instances c.args.number ≡ Some i = slice_get_read old.instances (length old.instances) c.args.number i refl c.in-Some.ensures.item.3.0 c.in-Some.ensures.value in
    let p = c.passed.result.now.result in
    let lifted = result_lifts (IsInStore l.options.memory i.code.store) p.most (plain p.ty) l.ty (options_of l.options) c.args.results.now (config_of i) (config_of j) c.new-loans.result.items
    (indexes_of c.lift_in.new.loans.items) (Ok c.in_ok-value.value) c.passed.ensures.most_flat c.passed.ensures.result c.new-loans.ensures.items c.in_ok-value.ensures.lifts in
    elim c.then-not-is_empty.branch [
      | then-not-is_empty-via-then-not-is_empty w ↦
          lift_refused g.H.Host.step old c.args.number l c.args.results.now i found j (indexes_of c.lift_in.new.loans.items) c.in_ok-value.value lifted (lends_some c.lift_in.new.loans (sym c.is_empty.ensures ∙ w.if-not-is_empty.true) _)
          (at g.H.Host.kept c.then-not-is_empty.self) (ap (λ (x : _). g.H.Host.kept x.host) w.self-is)
      | then-not-is_empty-via-else-not-is_empty+then-has_borrow w ↦
          lift_refused g.H.Host.step old c.args.number l c.args.results.now i found j (indexes_of c.lift_in.new.loans.items) c.in_ok-value.value lifted (holds_some _ _ (sym w.has_borrow.ensures ∙ w.if-has_borrow.true))
          (at g.H.Host.kept c.then-not-is_empty.self) (ap (λ (x : _). g.H.Host.kept x.host) w.self-is)
    ]

pub returns-clause-lifts : goal.returns-clause-lifts
returns-clause-lifts g c =
    let old = at g.H.Host.kept c.args.self.now in
    let l = c.args.lifting.now in
    let i = c.in-Some.instance.now in
    let j = c.lift_in.new.instance in
    let found : slice_get old.instances c.args.number ≡ Some i = slice_get_read old.instances (length old.instances) c.args.number i refl c.in-Some.ensures.item.3.0 c.in-Some.ensures.value in
    let p = c.passed.result.now.result in
    lift_done g.H.Host.step old c.args.number l c.args.results.now i found j (indexes_of c.lift_in.new.loans.items) c.in_ok-value.value
    (result_lifts (IsInStore l.options.memory i.code.store) p.most (plain p.ty) l.ty (options_of l.options) c.args.results.now (config_of i) (config_of j) c.new-loans.result.items
    (indexes_of c.lift_in.new.loans.items) (Ok c.in_ok-value.value) c.passed.ensures.most_flat c.passed.ensures.result c.new-loans.ensures.items c.in_ok-value.ensures.lifts)
    (lends_none c.lift_in.new.loans (sym c.is_empty.ensures ∙ c.if-not-is_empty.false)) (sym c.has_borrow.ensures ∙ c.if-has_borrow.false)
    (subst (λ t. is_of t (plain_value c.in_ok-value.value) ≡ true) c.passed.ensures.result c.in_ok-value.ensures.typed) c.in_ok-value.ensures.code
