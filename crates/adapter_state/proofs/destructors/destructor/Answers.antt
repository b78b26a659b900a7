use Rattle.std.proofs.Common.{◌≡◌, Result, Ok, Err, IfOk, sym, subst, ap, ◌∙◌}
use Rattle.virt_base.specs.declared.fault.NoMemory.{NoMemory}
use Rattle.wasm_ast.specs.declared.module.Body.{Body}
use Rattle.adapter_code.specs.Code.{code_of}
use Rattle.adapter_compile.specs.Does.{Compiles, body_of}
use Rattle.adapter_state.specs.Destructor.{routine_of, destroy_widths, IsDestructor}
use Rattle.adapter_state.proofs.Destroying.{destructs}
use Rattle.adapter_state.proofs.destructors.destructor.Goals as goal

if_ok_map : (r : Result Body NoMemory) (P Q : Body → Type 0) → IfOk r P → ((b : Body) → P b → Q b) → IfOk r Q
if_ok_map (Ok b) P Q p f = f b p
if_ok_map (Err e) P Q p f = tt

pub returns-clause-code : goal.returns-clause-code
returns-clause-code c =
    let calls = c.args.calls.now in
    let same = ap code_of c.deref.ensures.value ∙ c.in_ok-routine.ensures in
    if_ok_map c.compile.result (λ b. b ≡ body_of 1 destroy_widths calls (code_of c.deref.result.now)) (λ b. b ≡ body_of 1 destroy_widths calls (routine_of c.args.host c.args.base)) c.compile.ensures.code
    (λ b e. e ∙ ap (body_of 1 destroy_widths calls) same)

pub returns-clause-does : goal.returns-clause-does
returns-clause-does c =
    let calls = c.args.calls.now in
    let same = ap code_of c.deref.ensures.value ∙ c.in_ok-routine.ensures in
    if_ok_map c.compile.result (λ b. Compiles 1 destroy_widths calls (code_of c.deref.result.now) b) (λ b. IsDestructor c.args.host c.args.base calls b) c.compile.ensures.does
    (λ b p. destructs c.args.host c.args.base calls b (subst (λ code. Compiles 1 destroy_widths calls code b) same p))
