use Rattle.std.proofs.Common.{◌∙◌, ap, sym, refl, Option}
use Rattle.wasm_ast.specs.declared.module.CoreFunc.{CoreFunc}
use Rattle.core_store.specs.declared.value.StoreFunc.{StoreFunc}
use Rattle.core_store.specs.Eval.{function_type}
use Rattle.core_interp.proofs.Asking.{topmost}
use Rattle.core_interp.proofs.Pauses.{results_ok}
use Rattle.core_interp.proofs.machine.Machine.results.Goals as goal

pub returns : goal.returns
returns c =
    results_ok c.values.result _ _ _ _ _ _ c.functions.ensures
    (c.as_slice.ensures ∙ ap (λ (f : CoreFunc). f.results) c.type_of-ty.ensures ∙ sym (ap (λ (o : Option StoreFunc). (function_type o).results) c.function.ensures))
    (topmost c.args.self.now.running.slots.operands c.operands-operands.result.now c.args.count _ c.operands-operands.ensures refl c.requires.fits)
    c.values.ensures
