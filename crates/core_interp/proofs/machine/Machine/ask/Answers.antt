use Rattle.std.proofs.Common.{◌≤◌, ◌-◌, ℕ, length, ◌∙◌, ap, subst, Some, Option}
use Rattle.wasm_ast.specs.declared.module.CoreFunc.{CoreFunc}
use Rattle.core_store.specs.declared.value.StoreFunc.{StoreFunc}
use Rattle.core_interp.specs.Session.{params_at}
use Rattle.core_interp.proofs.Asking.{topmost}
use Rattle.core_interp.proofs.Pauses.{asks_by, asking_is, values_same}
use Rattle.core_interp.proofs.machine.Machine.ask.Goals as goal

pub returns : goal.returns
returns c =
    let fits : length c.in-Outside.ty.params ≤ length c.args.self.now.running.slots.operands = subst (λ (o : Option StoreFunc). params_at o ≤ length c.args.self.now.running.slots.operands) (c.function.ensures ∙ ap Some c.in-Outside.is) c.requires.fits in
    let params = ap (λ (f : CoreFunc). length f.params) c.get-ty.ensures in
    let results = ap (λ (f : CoreFunc). length f.results) c.get-ty.ensures in
    asks_by c.args.store.now c.args.callee c.in-Outside.number c.in-Outside.ty c.args.self.now _ _ (c.function.ensures ∙ ap Some c.in-Outside.is)
    (values_same _ _ _ _ _ _ _ c.functions.ensures (c.as_slice.ensures ∙ ap (λ (f : CoreFunc). f.params) c.get-ty.ensures)
    (topmost c.args.self.now.running.slots.operands c.operands-operands.result.now (length c.in-Outside.ty.params) (length c.operands-operands.result.now - c.len.result) c.operands-operands.ensures (ap (λ (k : ℕ). length c.operands-operands.result.now - k) (c.len.ensures ∙ params)) fits)
    c.in_ok-args-in-Outside.ensures)
    (asking_is c.args.self.now c.in-Outside.ty c.drop_top.new.self c.add_zeros.new.slots c.len-in-Outside.result c.len-in-Outside-2.result c.len-self.result (c.len-in-Outside.ensures ∙ params) (c.len-in-Outside-2.ensures ∙ results) (c.len-self.ensures ∙ results) c.drop_top.ensures c.in_ok-add_zeros-in-Outside.ensures)
