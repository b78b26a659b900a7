use Rattle.std.proofs.Common.{◌<◌, arith, ◌∙◌, ap, sym, refl, subst, length, Ok, true, false}
use Rattle.core_store.specs.declared.value.CoreSpaces.{CoreSpaces}
use Rattle.std.specs.Prelude.{slice_get}
use Rattle.core_store.specs.Fine.{Place}
use Rattle.core_store.specs.Table.{got}
use Rattle.core_store.specs.State.{table_at}
use Rattle.core_interp.specs.declared.running.Running.{Running}
use Rattle.core_interp.proofs.Entering.{indirect_can, indirect_enters_at, indirect_leads, indirect_null, indirect_past, indirect_other, leads_from, same_here}
use Rattle.core_interp.proofs.running.Running.call_indirect.Goals as goal

pub table_place-table-requires : goal.table_place-table-requires
table_place-table-requires c = record { names = subst (λ (z : CoreSpaces). Place (length c.args.store.now.tables) z.tables c.args.table) (sym c.requires.spaces) (indirect_can c.args.self.now c.args.store.now c.args.ty c.args.table c.requires.before).0 }

pub pop-requires : goal.pop-requires
pop-requires c = omega (arith, (indirect_can c.args.self.now c.args.store.now c.args.ty c.args.table c.requires.before).2)

pub type_at-due-requires : goal.type_at-due-requires
type_at-due-requires c = subst (λ (z : CoreSpaces). c.args.ty < length z.types) (sym c.requires.spaces) (indirect_can c.args.self.now c.args.store.now c.args.ty c.args.table c.requires.before).1

pub returns-in-Ok-Null-clause-leads : goal.returns-in-Ok-Null-clause-leads
returns-in-Ok-Null-clause-leads c rs n =
    indirect_null c.args.self.now c.args.store.now c.pop.new.self c.args.ty c.args.table c.table_place-table.result c.pop.result rs n c.requires.before (sym (ap (λ (z : CoreSpaces). slice_get z.tables c.args.table) c.requires.spaces) ∙ c.table_place-table.ensures.is)
    (ap (got (table_at c.args.store.now c.table_place-table.result)) (sym c.low-at.ensures) ∙ sym c.in-Ok-Null.ensures.value ∙ ap (λ r. Ok r) c.in-Ok-Null.field-0-is) c.pop.ensures

pub returns-in-Err-clause-leads : goal.returns-in-Err-clause-leads
returns-in-Err-clause-leads c rs n =
    indirect_past c.args.self.now c.args.store.now c.pop.new.self c.args.ty c.args.table c.table_place-table.result c.pop.result c.in-Err.field-0 rs n c.requires.before (sym (ap (λ (z : CoreSpaces). slice_get z.tables c.args.table) c.requires.spaces) ∙ c.table_place-table.ensures.is)
    (ap (got (table_at c.args.store.now c.table_place-table.result)) (sym c.low-at.ensures) ∙ sym c.in-Err.ensures.value) c.pop.ensures

pub returns-then-not-same_func-clause-leads : goal.returns-then-not-same_func-clause-leads
returns-then-not-same_func-clause-leads c rs n =
    indirect_other c.args.self.now c.args.store.now c.pop.new.self c.args.ty c.args.table c.table_place-table.result c.pop.result c.in-Ok-Func.callee c.function.result.now rs n c.requires.before (sym (ap (λ (z : CoreSpaces). slice_get z.tables c.args.table) c.requires.spaces) ∙ c.table_place-table.ensures.is)
    (ap (got (table_at c.args.store.now c.table_place-table.result)) (sym c.low-at.ensures) ∙ sym c.in-Ok-Func.ensures.value ∙ ap (λ r. Ok r) c.in-Ok-Func.field-0-is) c.function.ensures
    (same_here false c.args.spaces.now _ c.type_at-due.result.now c.type_of.result.now _ c.args.ty c.if-not-same_func.ensures c.type_at-due.ensures c.requires.spaces c.type_of.ensures) c.pop.ensures

pub enter-requires-clause-enters : goal.enter-requires-clause-enters
enter-requires-clause-enters c =
    indirect_enters_at c.args.self.now _ c.args.store.now c.args.ty c.args.table c.pop.result c.in-Ok-Func.callee c.function.result.now c.requires.before c.function.ensures
    (same_here true c.args.spaces.now _ c.type_at-due.result.now c.type_of.result.now _ c.args.ty c.if-not-same_func.ensures c.type_at-due.ensures c.requires.spaces c.type_of.ensures) c.pop.ensures refl refl refl

pub returns-in_ok-flow-in-Ok-Func-clause-leads : goal.returns-in_ok-flow-in-Ok-Func-clause-leads
returns-in_ok-flow-in-Ok-Func-clause-leads c =
    leads_from _ _ c.in_ok-flow-in-Ok-Func.flow c.enter.new.self c.enter.new.store
    (λ rs n. indirect_leads c.args.self.now (let j : Running = record c.args.self.now { slots = c.pop.new.self } in j) c.args.store.now c.args.ty c.args.table c.table_place-table.result c.pop.result c.in-Ok-Func.callee c.function.result.now rs n c.requires.before (sym (ap (λ (z : CoreSpaces). slice_get z.tables c.args.table) c.requires.spaces) ∙ c.table_place-table.ensures.is)
    (ap (got (table_at c.args.store.now c.table_place-table.result)) (sym c.low-at.ensures) ∙ sym c.in-Ok-Func.ensures.value ∙ ap (λ r. Ok r) c.in-Ok-Func.field-0-is) c.function.ensures
    (same_here true c.args.spaces.now _ c.type_at-due.result.now c.type_of.result.now _ c.args.ty c.if-not-same_func.ensures c.type_at-due.ensures c.requires.spaces c.type_of.ensures)
    c.pop.ensures refl refl refl)
    c.in_ok-flow-in-Ok-Func.ensures.leads
