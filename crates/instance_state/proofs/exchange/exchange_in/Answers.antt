use Rattle.std.proofs.lemmas.Result.{err_from_is_err_and}
use Rattle.std.proofs.Common.{◌≡◌, ◌++◌, List, length, ap, ◌∙◌, refl, arith}
use Rattle.wit_types.specs.Plain.{plain}
use Rattle.wit_types.specs.PlainValue.{plain_value}
use Rattle.abi_layout.specs.Handles.{handles, renumbered}
use Rattle.value_handles.specs.declared.handle.ValueHandle.{ValueHandle}
use Rattle.value_handles.specs.Shown.{shown}
use Rattle.instance_state.specs.Owning.{plain_for}
use Rattle.instance_state.proofs.Laws.{room_in, goes_in, stays_in, stops_in}
use Rattle.instance_state.proofs.exchange.exchange_in.Goals as goal

pub returns-then-not-holds : goal.returns-then-not-holds
returns-then-not-holds c = stays_in (plain c.args.ty.now) (plain_value c.args.value) (plain_for c.args.owners.now c.args.into) c.args.handles.now c.args.value (c.requires ∙ c.if-not-holds.true) refl

pub renumber-requires : goal.renumber-requires
renumber-requires c =
    let found : shown c.deref.result.now ≡ handles (plain c.args.ty.now) (plain_value c.args.value) = ap shown c.deref.ensures.value ∙ c.in-Ok.ensures ∙ ap (λ (xs : List ValueHandle). shown xs ++ handles (plain c.args.ty.now) (plain_value c.args.value)) c.clear.ensures.items in
    let count = room_in (plain c.args.ty.now) (plain_value c.args.value) (plain_for c.args.owners.now c.args.into) c.deref.result.now c.args.handles.now c.lower.new.self c.lower.new.indexes.items found (rw c.clear-2.ensures.items at c.in_ok-lower.ensures) in
    let same = ap length c.deref-2.ensures.value in
    omega arith

pub returns : goal.returns
returns c =
    let found : shown c.deref.result.now ≡ handles (plain c.args.ty.now) (plain_value c.args.value) = ap shown c.deref.ensures.value ∙ c.in-Ok.ensures ∙ ap (λ (xs : List ValueHandle). shown xs ++ handles (plain c.args.ty.now) (plain_value c.args.value)) c.clear.ensures.items in
    goes_in (plain c.args.ty.now) (plain_value c.args.value) (plain_for c.args.owners.now c.args.into) c.deref.result.now c.args.handles.now c.lower.new.self c.lower.new.indexes.items c.renumber.result found
    (rw c.clear-2.ensures.items at c.in_ok-lower.ensures) (c.renumber.ensures.value ∙ ap (renumbered (plain c.args.ty.now) (plain_value c.args.value)) c.deref-2.ensures.value)

pub returns-in_err-lower : goal.returns-in_err-lower
returns-in_err-lower c =
    let found : shown c.deref.result.now ≡ handles (plain c.args.ty.now) (plain_value c.args.value) = ap shown c.deref.ensures.value ∙ c.in-Ok.ensures ∙ ap (λ (xs : List ValueHandle). shown xs ++ handles (plain c.args.ty.now) (plain_value c.args.value)) c.clear.ensures.items in
    let p = err_from_is_err_and c.from_residual.result c.from_residual.ensures.1 in
    rw (p.1, p.2)
    (stops_in (plain c.args.ty.now) (plain_value c.args.value) (plain_for c.args.owners.now c.args.into) c.deref.result.now c.args.handles.now c.lower.new.self c.clear-2.new.self.items c.lower.new.indexes.items c.in_err-lower.field-0.0 found
    (c.in_err-lower.ensures {u = tt}))
