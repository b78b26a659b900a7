use Rattle.std.proofs.Common.{◌≡◌, ◌+◌, ◌≤◌, ◌++◌, List, Result, Ok, Err, IfOk, length, sym, ap, ◌∙◌, subst, arith, length-append}
use Rattle.virt_base.specs.declared.fault.NoMemory.{NoMemory}
use Rattle.wasm_ast.specs.declared.module.Module.{Module}
use Rattle.core_validate.specs.Validity.{IsValidModule}
use Rattle.adapter_transfer.specs.declared.module.Defined.{Defined}
use Rattle.adapter_transfer.specs.declared.module.Parts.{Parts}
use Rattle.adapter_transfer.specs.Module.{module_of}
use Rattle.adapter_state.specs.State.{each_kind, drop_import, destructor_of, posts_of, state_functions, state_parts, state_of}
use Rattle.adapter_state.proofs.EachKind.{each_length, one_import, one_destructor, three_posts}
use Rattle.adapter_state.proofs.Fitting.{state_valid}
use Rattle.adapter_state.proofs.state.state_module.Goals as goal

if_ok_map : (r : Result Module NoMemory) (P Q : Module → Type 0) → IfOk r P → ((m : Module) → P m → Q m) → IfOk r Q
if_ok_map (Ok m) P Q p f = f m p
if_ok_map (Err e) P Q p f = tt

pub assemble-requires : goal.assemble-requires
assemble-requires c =
    let kinds = c.args.kinds.now in
    let l = c.args.layout.now in
    let imports = each_length drop_import 0 kinds one_import in
    let frees = each_length (destructor_of kinds l) 0 kinds (one_destructor kinds l) in
    let posts = three_posts l c.args.posts in
    let both = length-append (each_kind (destructor_of kinds l) 0 kinds) (posts_of l c.args.posts) in
    let functions = ap length c.in_ok-list.ensures in
    let imported = ap (λ (p : Parts). p.imported) c.in_ok-parts.ensures in
    omega (arith, imports, frees, posts, both, functions, imported, c.requires.kinds)

pub returns-clause-tree : goal.returns-clause-tree
returns-clause-tree c =
    let kinds = c.args.kinds.now in
    let l = c.args.layout.now in
    if_ok_map c.assemble.result (λ m. m ≡ module_of c.in_ok-parts.parts c.in_ok-list.list.items) (λ m. m ≡ state_of kinds l c.args.image c.args.posts) c.assemble.ensures
    (λ m e. e ∙ ap (λ p. module_of p c.in_ok-list.list.items) c.in_ok-parts.ensures ∙ ap (λ ds. module_of (state_parts kinds l c.args.image) ds) c.in_ok-list.ensures)

pub returns-clause-valid : goal.returns-clause-valid
returns-clause-valid c =
    let kinds = c.args.kinds.now in
    let l = c.args.layout.now in
    let P : Module → Type 0 = λ m. IsValidModule m in
    if_ok_map c.assemble.result (λ m. m ≡ state_of kinds l c.args.image c.args.posts) P (returns-clause-tree c) (λ m e. subst P (sym e) (state_valid kinds l c.args.image c.args.posts c.requires.kinds c.requires.fits))
