use Rattle.std.proofs.Common.{◌≡◌, [], Err, Some, None, ap, subst, refl}
use Rattle.wit_types.specs.Plain.{plain}
use Rattle.wit_types.specs.PlainValue.{plain_value}
use Rattle.abi_layout.specs.Handles.{handles}
use Rattle.abi_load.specs.Lifted.{words}
use Rattle.comp_worlds.specs.Passing.{named_in, lift_handles, lift_words}
use Rattle.comp_worlds.specs.Locals.{bytes_in}
use Rattle.instance_state.specs.Loans.{indexes_of}
use Rattle.instance_state.specs.Shown.{config_of}
use Rattle.instance_state.specs.Passed.{options_of}
use Rattle.instance_state.proofs.Lifted.{lifted_as, stops_as, typed_as}
use Rattle.instance_state.proofs.lifting.lift.Goals as goal

pub returns-in-Err-clause-lifts : goal.returns-in-Err-clause-lifts
returns-in-Err-clause-lifts c =
    rw c.handle_fault.ensures
    (stops_as c.args.passed.now.most (plain c.args.passed.now.ty) (options_of c.args.options) (words c.args.flat.now) (config_of c.args.instance.now) (config_of c.args.instance.now) [] [] c.in-Err.fault (λ e. subst (λ z. lift_words c.args.passed.now.most (plain c.args.passed.now.ty) (bytes_in (options_of c.args.options) z) (words c.args.flat.now) ≡ None) c.store.ensures (c.in-Err.ensures.trap (ap Err e))))

pub returns-in-Ok-clause-lifts : goal.returns-in-Ok-clause-lifts
returns-in-Ok-clause-lifts c =
    lifted_as c.args.passed.now.most (plain c.args.passed.now.ty) (options_of c.args.options) (words c.args.flat.now) (config_of c.args.instance.now) _ (plain_value c.in-Ok.value) c.exchange_out.new.handles (indexes_of c.args.loans.now.items) (indexes_of c.exchange_out.new.loans.items)
    c.exchange_out.result (subst (λ z. lift_words c.args.passed.now.most (plain c.args.passed.now.ty) (bytes_in (options_of c.args.options) z) (words c.args.flat.now) ≡ Some (plain_value c.in-Ok.value)) c.store.ensures c.in-Ok.ensures.ok) c.exchange_out.ensures.goes refl

pub returns-in-Ok-clause-typed : goal.returns-in-Ok-clause-typed
returns-in-Ok-clause-typed c =
    typed_as (plain c.args.passed.now.ty) (plain_value c.in-Ok.value) (lift_handles (named_in (handles (plain c.args.passed.now.ty) (plain_value c.in-Ok.value))) c.args.instance.now.handles) c.exchange_out.new.handles (indexes_of c.args.loans.now.items)
    (indexes_of c.exchange_out.new.loans.items) c.exchange_out.result c.exchange_out.ensures.goes c.in-Ok.ensures.typed
