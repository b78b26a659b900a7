use Rattle.std.proofs.Common.{◌≡◌, ◌+◌, ◌-◌, refl, Result, Ok, Err, IfOk, length, sym, ap, ◌∙◌, subst, arith}
use Rattle.virt_base.specs.declared.fault.NoMemory.{NoMemory}
use Rattle.wasm_ast.specs.declared.module.Module.{Module}
use Rattle.core_validate.specs.Validity.{IsValidModule}
use Rattle.adapter_stubs.specs.Stubs.{first_drop, first_host, host_types, stubs_of}
use Rattle.adapter_stubs.proofs.Counting.{functions_length, counts, imports_are, calls_are, module_is}
use Rattle.adapter_stubs.proofs.Fitting.{stubs_valid}
use Rattle.adapter_stubs.proofs.stubs.stubs_module.Goals as goal

if_ok_map : (r : Result Module NoMemory) (P Q : Module → Type 0) → IfOk r P → ((m : Module) → P m → Q m) → IfOk r Q
if_ok_map (Ok m) P Q p f = f m p
if_ok_map (Err e) P Q p f = tt

pub overflow_cast-drops : goal.overflow_cast-drops
overflow_cast-drops c =
    let n = counts c.args.kinds.now c.args.layout.now c.args.stubs.now c.in_ok-imports.imports c.put_new_imports.new.list _ _ c.requires.kinds c.in_ok-imports.ensures c.in_ok-put_new_imports.ensures refl refl in
    let a = n.drops in
    let b = n.few_drops in
    omega (arith, a, b, c.len.ensures)

pub overflow_cast-asked : goal.overflow_cast-asked
overflow_cast-asked c =
    let n = counts c.args.kinds.now c.args.layout.now c.args.stubs.now c.in_ok-imports.imports c.put_new_imports.new.list c.put_drop_imports.new.list _ c.requires.kinds c.in_ok-imports.ensures c.in_ok-put_new_imports.ensures c.in_ok-put_drop_imports.ensures refl in
    let a = n.hosts in
    let b = n.few_hosts in
    omega (arith, a, b, c.len-2.ensures)

pub overflow_cast-imported : goal.overflow_cast-imported
overflow_cast-imported c =
    let n = counts c.args.kinds.now c.args.layout.now c.args.stubs.now c.in_ok-imports.imports c.put_new_imports.new.list c.put_drop_imports.new.list c.put_host_imports.new.list c.requires.kinds c.in_ok-imports.ensures c.in_ok-put_new_imports.ensures c.in_ok-put_drop_imports.ensures c.in_ok-put_host_imports.ensures in
    let a = n.all in
    let b = n.few_hosts in
    let d = n.few in
    let e = c.requires.stubs.few in
    omega (arith, a, b, d, e, c.len-3.ensures)

pub drop_indexes-requires : goal.drop_indexes-requires
drop_indexes-requires c =
    let n = counts c.args.kinds.now c.args.layout.now c.args.stubs.now c.in_ok-imports.imports c.put_new_imports.new.list _ _ c.requires.kinds c.in_ok-imports.ensures c.in_ok-put_new_imports.ensures refl refl in
    let a = n.drops in
    let b = n.few_drops in
    omega (arith, a, b, c.len.ensures, c.requires.kinds)

pub overflow_add-imported : goal.overflow_add-imported
overflow_add-imported c =
    let n = counts c.args.kinds.now c.args.layout.now c.args.stubs.now c.in_ok-imports.imports c.put_new_imports.new.list c.put_drop_imports.new.list c.put_host_imports.new.list c.requires.kinds c.in_ok-imports.ensures c.in_ok-put_new_imports.ensures c.in_ok-put_drop_imports.ensures c.in_ok-put_host_imports.ensures in
    let a = n.all in
    let b = n.few_hosts in
    let d = n.few in
    let e = c.requires.stubs.few in
    omega (arith, a, b, d, e, c.len-3.ensures)

pub functions-requires-clause-asked : goal.functions-requires-clause-asked
functions-requires-clause-asked c =
    let n = counts c.args.kinds.now c.args.layout.now c.args.stubs.now c.in_ok-imports.imports c.put_new_imports.new.list c.put_drop_imports.new.list _ c.requires.kinds c.in_ok-imports.ensures c.in_ok-put_new_imports.ensures c.in_ok-put_drop_imports.ensures refl in
    let a = n.hosts in
    let b = n.few_hosts in
    omega (arith, a, b, c.len-2.ensures)

pub functions-requires-clause-types : goal.functions-requires-clause-types
functions-requires-clause-types c =
    let n = counts c.args.kinds.now c.args.layout.now c.args.stubs.now c.in_ok-imports.imports c.put_new_imports.new.list c.put_drop_imports.new.list c.put_host_imports.new.list c.requires.kinds c.in_ok-imports.ensures c.in_ok-put_new_imports.ensures c.in_ok-put_drop_imports.ensures c.in_ok-put_host_imports.ensures in
    let a = n.all in
    let h = n.hosts in
    let d = n.few in
    let e = c.requires.stubs.few in
    omega (arith, a, h, d, e, c.len-3.ensures, c.len-2.ensures)

pub assemble-requires : goal.assemble-requires
assemble-requires c =
    let n = counts c.args.kinds.now c.args.layout.now c.args.stubs.now c.in_ok-imports.imports c.put_new_imports.new.list c.put_drop_imports.new.list c.put_host_imports.new.list c.requires.kinds c.in_ok-imports.ensures c.in_ok-put_new_imports.ensures c.in_ok-put_drop_imports.ensures c.in_ok-put_host_imports.ensures in
    let a = n.all in
    let b = n.few_hosts in
    let d = n.few in
    let e = c.requires.stubs.few in
    let long = ap length c.in_ok-list.ensures ∙ functions_length _ 0 _ _ c.args.stubs.now in
    omega (arith, a, b, d, e, long, c.len-3.ensures)

pub returns-clause-tree : goal.returns-clause-tree
returns-clause-tree c =
    let kinds = c.args.kinds.now in
    let l = c.args.layout.now in
    let stubs = c.args.stubs.now in
    let n = counts kinds l stubs c.in_ok-imports.imports c.put_new_imports.new.list c.put_drop_imports.new.list c.put_host_imports.new.list c.requires.kinds c.in_ok-imports.ensures c.in_ok-put_new_imports.ensures c.in_ok-put_drop_imports.ensures c.in_ok-put_host_imports.ensures in
    let imports = imports_are kinds l stubs c.in_ok-imports.imports c.put_new_imports.new.list c.put_drop_imports.new.list c.put_host_imports.new.list c.in_ok-imports.ensures c.in_ok-put_new_imports.ensures c.in_ok-put_drop_imports.ensures c.in_ok-put_host_imports.ensures in
    let a = n.all in
    let h = n.hosts in
    let d = n.drops in
    let imported : c.len-3.result - 1 ≡ first_host kinds + length (host_types stubs) = omega (arith, a, c.len-3.ensures) in
    let first : c.len.result - 1 ≡ first_drop kinds = omega (arith, d, c.len.ensures) in
    let at : c.len-2.result - 1 ≡ first_host kinds = omega (arith, h, c.len-2.ensures) in
    let ty : 3 + (c.len-3.result - 1) - (c.len-2.result - 1) ≡ 3 + length (host_types stubs) = omega (arith, a, h, c.len-3.ensures, c.len-2.ensures) in
    let calls = calls_are kinds c.in_ok-new_indexes.field-0 c.in_ok-drop_indexes.field-0 (c.len.result - 1) c.in_ok-new_indexes.ensures c.in_ok-drop_indexes.ensures first in
    if_ok_map c.assemble.result _ (λ m. m ≡ stubs_of kinds l stubs) c.assemble.ensures
    (λ m e. e ∙ module_is kinds l stubs c.in_ok-types.field-0 c.put_host_imports.new.list (c.len-3.result - 1) c.empty.result c.empty-2.result c.empty-3.result c.empty-4.result c.in_ok-list.list.items _ (c.len-2.result - 1) (3 + (c.len-3.result - 1) - (c.len-2.result - 1))
    c.in_ok-types.ensures imports imported c.empty.ensures c.empty-2.ensures c.empty-3.ensures c.empty-4.ensures c.in_ok-list.ensures calls at ty)

pub returns-clause-valid : goal.returns-clause-valid
returns-clause-valid c =
    let kinds = c.args.kinds.now in
    let l = c.args.layout.now in
    let stubs = c.args.stubs.now in
    let P : Module → Type 0 = λ m. IsValidModule m in
    if_ok_map c.assemble.result (λ m. m ≡ stubs_of kinds l stubs) P (returns-clause-tree c) (λ m e. subst P (sym e) (stubs_valid kinds l stubs c.requires.kinds c.requires.fits c.requires.stubs))
