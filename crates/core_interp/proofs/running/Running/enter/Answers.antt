use Rattle.std.proofs.Common.{ℕ, [], ◌∷◌, ◌++◌, length, ◌∙◌, ap, Some, refl, ◌+◌}
use Rattle.wasm_ast.specs.declared.module.CoreFunc.{CoreFunc}
use Rattle.core_slots.specs.Stacked.{opened}
use Rattle.core_interp.specs.declared.control.Control.TheVariants.{Called}
use Rattle.core_interp.proofs.Entering.{enter_inside, enter_deep, enter_outside, enter_within}
use Rattle.core_interp.proofs.Entries.{called_pushed}
use Rattle.core_interp.proofs.running.Running.enter.Goals as goal

pub function-requires : goal.function-requires
function-requires c = enter_within c.args.self.now c.args.store.now c.args.callee c.requires.enters

pub returns-in-Outside-clause-leads : goal.returns-in-Outside-clause-leads
returns-in-Outside-clause-leads c = enter_outside c.args.self.now c.args.store.now c.args.callee c.in-Outside.number c.in-Outside.ty _ c.requires.enters (c.function.ensures ∙ ap Some c.in-Outside.is) refl refl refl refl

pub returns-in_ok-push-in-Ok-clause-leads : goal.returns-in_ok-push-in-Ok-clause-leads
returns-in_ok-push-in-Ok-clause-leads c =
    enter_inside c.args.self.now c.args.store.now _ c.args.callee c.in-Inside.instance c.in-Inside.ty c.in-Inside.locals c.in-Inside.body c.open.new.self c.push.new.self.items c.requires.enters c.requires.fine (c.function.ensures ∙ ap Some c.in-Inside.is) c.in-Ok.ensures
    (c.in_ok-open-in-Ok.ensures ∙ ap (λ (k : ℕ). opened k c.len-count.result c.args.self.now.slots) (c.len-params.ensures ∙ ap (λ (f : CoreFunc). length f.params) c.get-ty.ensures) ∙ ap (λ (k : ℕ). opened (length c.in-Inside.ty.params) k c.args.self.now.slots) c.len-count.ensures)
    (c.in_ok-push-in-Ok.ensures.items ∙ ap (λ (k : ℕ). c.args.self.now.controls.items ++ Called c.args.self.now.function (c.args.self.now.at + 1) k ∷ []) (c.len-results.ensures ∙ ap (λ (f : CoreFunc). length f.results) c.get-ty.ensures))

pub returns-in-Err-clause-leads : goal.returns-in-Err-clause-leads
returns-in-Err-clause-leads c rs n =
    enter_deep c.args.self.now c.args.store.now c.args.callee c.in-Inside.instance c.in-Inside.ty c.in-Inside.locals c.in-Inside.body rs n c.requires.enters (c.function.ensures ∙ ap Some c.in-Inside.is) c.in-Err.ensures.0

pub returns-in_ok-push-in-Ok-clause-entry : goal.returns-in_ok-push-in-Ok-clause-entry
returns-in_ok-push-in-Ok-clause-entry c = called_pushed _ _ _ _ _ c.in_ok-push-in-Ok.ensures.items
