use Rattle.std.proofs.Common.{◌≡◌, length, Some, Ok, Err, refl, ap, ◌∙◌}
use Rattle.std.specs.Prelude.{Result, slice_get}
use Rattle.std.proofs.lemmas.Option.{slice_get_read}
use Rattle.wit_types.specs.declared.value.Value.{Value}
use Rattle.call_moments.specs.Words.{word_in}
use Rattle.call_moments.specs.declared.end.Stop.{Stop}
use Rattle.call_moments.specs.declared.end.Stop.TheVariants as stops
use Rattle.comp_calls.specs.Moments.{at}
use Rattle.comp_calls.proofs.Begun.{LiftsArgs, call_wants, args_stop, own_asked, host_ends, host_asked}
use Rattle.call_moments.proofs.Following.{with_instance}
use Rattle.call_moments.proofs.Calling.{calls_there, calls_closed}
use Rattle.comp_calls.proofs.world.World.call.Goals as goal

pub returns-in_default-clause-leads : goal.returns-in_default-clause-leads
returns-in_default-clause-leads g c = calls_there g.H.Host.step (at g.H.Host.kept c.args.self.now) c.args.number c.args.depth c.args.target c.args.options c.args.args.now c.in_default.ensures.item.3 (Err stops.Trapped) (at g.H.Host.kept c.args.self.now)

pub returns-in_err-is_open-clause-leads : goal.returns-in_err-is_open-clause-leads
returns-in_err-is_open-clause-leads g c =
    let old = at g.H.Host.kept c.args.self.now in
    let k = c.args.number in
    let i = c.in-Some.instance.now in
    let found : slice_get old.instances k ≡ Some i = slice_get_read old.instances (length old.instances) k i refl c.in-Some.ensures.item.3.0 c.in-Some.ensures.value in
    calls_closed g.H.Host.step old k c.args.depth c.args.target c.args.options c.args.args.now i found c.in_err-is_open.ensures c.from_residual.result (with_instance old k i) refl c.from_residual.ensures.1

pub returns-in_err-value-clause-leads : goal.returns-in_err-value-clause-leads
returns-in_err-value-clause-leads g c =
    let old = at g.H.Host.kept c.args.self.now in
    let k = c.args.number in
    let i = c.in-Some.instance.now in
    let j = c.lift_in.new.instance in
    let found : slice_get old.instances k ≡ Some i = slice_get_read old.instances (length old.instances) k i refl c.in-Some.ensures.item.3.0 c.in-Some.ensures.value in
    let given : Result Value Stop = Err c.in_err-value.field-0.0 in
    let lifts : LiftsArgs i j c.args.target c.args.options c.args.args.now c.lift_in.new.loans.items given =
    record { ty = c.ty-ty.result.now; is = c.ty-ty.ensures; passed = c.passed.result.now; passes = c.passed.ensures; from = c.new-loans.result.items; none = c.new-loans.ensures.items; clause = c.in_err-value.ensures.lifts } in
    args_stop g.H.Host.step old k c.args.depth c.args.target c.args.options c.args.args.now i j found c.in_ok-is_open.ensures c.lift_in.new.loans given lifts c.in_err-value.field-0.0 refl c.from_residual-in_err-value.result (with_instance old k j) refl c.from_residual-in_err-value.ensures.1

pub returns-in_err-import-clause-leads : goal.returns-in_err-import-clause-leads
returns-in_err-import-clause-leads g c = call_wants g.H.Host.step (at g.H.Host.kept c.args.self.now) (with_instance (at g.H.Host.kept c.args.self.now) c.args.number c.lift_in.new.instance) c.args.number c.args.depth c.args.target c.args.options c.args.args.now c.from_residual-in_err-import.result c.from_residual-in_err-import.ensures.1

pub returns-in_err-value-in-Theirs-clause-leads : goal.returns-in_err-value-in-Theirs-clause-leads
returns-in_err-value-in-Theirs-clause-leads g c =
    let old = at g.H.Host.kept c.args.self.now in
    let k = c.args.number in
    let i = c.in-Some.instance.now in
    let j = c.lift_in.new.instance in
    let found : slice_get old.instances k ≡ Some i = slice_get_read old.instances (length old.instances) k i refl c.in-Some.ensures.item.3.0 c.in-Some.ensures.value in
    let given : Result Value Stop = Ok c.in_ok-value.value in
    let lifts : LiftsArgs i j c.args.target c.args.options c.args.args.now c.lift_in.new.loans.items given =
    record { ty = c.ty-ty.result.now; is = c.ty-ty.ensures; passed = c.passed.result.now; passes = c.passed.ensures; from = c.new-loans.result.items; none = c.new-loans.ensures.items; clause = c.in_ok-value.ensures.lifts } in
    host_ends g.H.Host.step old k c.args.depth c.args.target c.args.options c.args.args.now i j found c.in_ok-is_open.ensures c.lift_in.new.loans given lifts c.in_ok-value.value refl c.in_ok-value.ensures.code c.in_ok-value.ensures.typed c.in_ok-value.ensures.lent c.word_at-place.result
    (c.word_at-place.ensures ∙ ap (λ n. word_in (slice_get c.args.args.now n)) c.flat_params.ensures) c.in_ok-import.field-0 c.in_ok-import.ensures c.in-Theirs.import c.deref.result.now c.in-Theirs.is c.deref.ensures (at g.H.Host.kept c.ask_host.new.self) c.in_err-value-in-Theirs.field-0.0
    c.from_residual-in_err-value-in-Theirs.result c.in_err-value-in-Theirs.ensures.asks c.from_residual-in_err-value-in-Theirs.ensures.1

pub returns-in_ok-value-in-Theirs-clause-leads : goal.returns-in_ok-value-in-Theirs-clause-leads
returns-in_ok-value-in-Theirs-clause-leads g c =
    let old = at g.H.Host.kept c.args.self.now in
    let k = c.args.number in
    let i = c.in-Some.instance.now in
    let j = c.lift_in.new.instance in
    let found : slice_get old.instances k ≡ Some i = slice_get_read old.instances (length old.instances) k i refl c.in-Some.ensures.item.3.0 c.in-Some.ensures.value in
    let given : Result Value Stop = Ok c.in_ok-value.value in
    let lifts : LiftsArgs i j c.args.target c.args.options c.args.args.now c.lift_in.new.loans.items given =
    record { ty = c.ty-ty.result.now; is = c.ty-ty.ensures; passed = c.passed.result.now; passes = c.passed.ensures; from = c.new-loans.result.items; none = c.new-loans.ensures.items; clause = c.in_ok-value.ensures.lifts } in
    host_asked g.H.Host.step old k c.args.depth c.args.target c.args.options c.args.args.now i j found c.in_ok-is_open.ensures c.lift_in.new.loans given lifts c.in_ok-value.value refl c.in_ok-value.ensures.code c.in_ok-value.ensures.typed c.in_ok-value.ensures.lent c.word_at-place.result
    (c.word_at-place.ensures ∙ ap (λ n. word_in (slice_get c.args.args.now n)) c.flat_params.ensures) c.in_ok-import.field-0 c.in_ok-import.ensures c.in-Theirs.import c.deref.result.now c.in-Theirs.is c.deref.ensures c.in_ok-value-in-Theirs.value (at g.H.Host.kept c.ask_host.new.self)
    (at g.H.Host.kept c.lower_result.new.self) c.lower_result.result c.in_ok-value-in-Theirs.ensures.asks c.lower_result.ensures.leads

pub returns-in-Mine-clause-leads : goal.returns-in-Mine-clause-leads
returns-in-Mine-clause-leads g c =
    let old = at g.H.Host.kept c.args.self.now in
    let k = c.args.number in
    let i = c.in-Some.instance.now in
    let j = c.lift_in.new.instance in
    let found : slice_get old.instances k ≡ Some i = slice_get_read old.instances (length old.instances) k i refl c.in-Some.ensures.item.3.0 c.in-Some.ensures.value in
    let given : Result Value Stop = Ok c.in_ok-value.value in
    let lifts : LiftsArgs i j c.args.target c.args.options c.args.args.now c.lift_in.new.loans.items given =
    record { ty = c.ty-ty.result.now; is = c.ty-ty.ensures; passed = c.passed.result.now; passes = c.passed.ensures; from = c.new-loans.result.items; none = c.new-loans.ensures.items; clause = c.in_ok-value.ensures.lifts } in
    own_asked g.H.Host.step old k c.args.depth c.args.target c.args.options c.args.args.now i j found c.in_ok-is_open.ensures c.lift_in.new.loans given lifts c.in_ok-value.value refl c.in_ok-value.ensures.code c.in_ok-value.ensures.typed c.in_ok-value.ensures.lent c.word_at-place.result
    (c.word_at-place.ensures ∙ ap (λ n. word_in (slice_get c.args.args.now n)) c.flat_params.ensures) c.in_ok-import.field-0 c.in_ok-import.ensures c.in-Mine.callee c.in-Mine.lifting c.in-Mine.is (at g.H.Host.kept c.call_lifted.new.self) c.call_lifted.result c.call_lifted.ensures.leads
