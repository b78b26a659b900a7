use Rattle.std.proofs.Common.{◌≡◌, ◌++◌, List, length, ap, ◌∙◌, refl, arith}
use Rattle.wit_types.specs.Plain.{plain}
use Rattle.wit_types.specs.PlainValue.{plain_value}
use Rattle.abi_layout.specs.Handles.{handles, renumbered}
use Rattle.value_handles.specs.declared.handle.ValueHandle.{ValueHandle}
use Rattle.value_handles.specs.Shown.{shown}
use Rattle.instance_state.specs.Loans.{indexes_of}
use Rattle.instance_state.proofs.Laws.{room_out, goes_out, stays_out}
use Rattle.instance_state.proofs.exchange.exchange_out.Goals as goal

pub returns-then-not-holds-clause-goes : goal.returns-then-not-holds-clause-goes
returns-then-not-holds-clause-goes c = stays_out (plain c.args.ty.now) (plain_value c.args.value) c.args.handles.now (indexes_of c.args.loans.now.items) c.args.value (c.requires ∙ c.if-not-holds.true) refl

pub renumber-requires : goal.renumber-requires
renumber-requires c =
    let found : shown c.deref.result.now ≡ handles (plain c.args.ty.now) (plain_value c.args.value) = ap shown c.deref.ensures.value ∙ c.in-Ok.ensures ∙ ap (λ (xs : List ValueHandle). shown xs ++ handles (plain c.args.ty.now) (plain_value c.args.value)) c.clear.ensures.items in
    let count = room_out (plain c.args.ty.now) (plain_value c.args.value) c.deref.result.now c.args.handles.now c.lift.new.self c.lift.new.reps.items (indexes_of c.args.loans.now.items) (indexes_of c.lift.new.loans.items) found (rw c.clear-2.ensures.items at c.in_ok-lift.ensures.lifts) in
    let same = ap length c.deref-2.ensures.value in
    omega arith

pub returns-clause-goes : goal.returns-clause-goes
returns-clause-goes c =
    let found : shown c.deref.result.now ≡ handles (plain c.args.ty.now) (plain_value c.args.value) = ap shown c.deref.ensures.value ∙ c.in-Ok.ensures ∙ ap (λ (xs : List ValueHandle). shown xs ++ handles (plain c.args.ty.now) (plain_value c.args.value)) c.clear.ensures.items in
    goes_out (plain c.args.ty.now) (plain_value c.args.value) c.deref.result.now c.args.handles.now c.lift.new.self c.lift.new.reps.items (indexes_of c.args.loans.now.items) (indexes_of c.lift.new.loans.items) c.renumber.result found
    (rw c.clear-2.ensures.items at c.in_ok-lift.ensures.lifts) (c.renumber.ensures.value ∙ ap (renumbered (plain c.args.ty.now) (plain_value c.args.value)) c.deref-2.ensures.value)
