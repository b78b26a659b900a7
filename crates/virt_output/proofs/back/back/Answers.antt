use Rattle.std.proofs.Common.{rules, subst, sym, List}
use Rattle.wasm_ast.specs.declared.component.Instance.{Instance}
use Rattle.wasm_ast.specs.ComponentItems.{instance}
use Rattle.wasm_format.specs.Format.{vec}
use Rattle.comp_types.specs.Views.{entries_of}
use Rattle.virt_output.proofs.FitLemmas.{instance_fits}
use Rattle.virt_output.proofs.EndLaws.{instance_failed, exports_failed, all_added, leaves_ends}
use Rattle.virt_output.proofs.back.back.Goals as goal

pub add-requires : goal.add-requires
add-requires c = subst (λ (items : List Instance). (vec instance).Fits items) (sym c.in_ok-instance.ensures) instance_fits

pub returns-in_err-add : goal.returns-in_err-add
returns-in_err-add c =
    leaves_ends (entries_of c.args.entries.now) c.from_residual-in_err-add.result c.in_err-add.field-0.0 (search (rules, c.from_residual-in_err-add.ensures))
    (instance_failed (entries_of c.args.entries.now) c.in_ok-instance.instance c.new-out.result.items c.add.new.out.items c.in_err-add.field-0.0 c.in_ok-instance.ensures c.in_err-add.ensures)

pub returns-in_err-add_exports : goal.returns-in_err-add_exports
returns-in_err-add_exports c =
    leaves_ends (entries_of c.args.entries.now) c.from_residual-in_err-add_exports.result c.in_err-add_exports.field-0.0 (search (rules, c.from_residual-in_err-add_exports.ensures))
    (exports_failed (entries_of c.args.entries.now) c.add.new.out.items c.add_exports.new.out.items c.in_err-add_exports.field-0.0 c.in_err-add_exports.ensures)

pub returns : goal.returns
returns c =
    all_added (entries_of c.args.entries.now) c.in_ok-instance.instance c.new-out.result.items c.add.new.out.items c.add_exports.new.out c.new-out.ensures.items c.in_ok-instance.ensures c.in_ok-add.ensures c.in_ok-add_exports.ensures
