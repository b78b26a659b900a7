use Rattle.std.proofs.Common.{◌≡◌, ◌-◌, ◌∷◌, [], ◌++◌, length, drop, sym, ap, ◌∙◌, subst, arith}
use Rattle.std.proofs.lemmas.List.{length-drop, take_all}
use Rattle.wasm_ast.specs.declared.module.Body.{Body}
use Rattle.wasm_ast.specs.declared.instr.Instr.TheVariants.{End}
use Rattle.adapter_code.specs.Code.{code_of}
use Rattle.adapter_compile.specs.Instructions.{routine_code}
use Rattle.adapter_compile.specs.Bounds.{nesting}
use Rattle.adapter_compile.specs.Does.{declared_of, body_of, Compiles}
use Rattle.adapter_compile.proofs.Called.{compiled}
use Rattle.adapter_compile.proofs.Lists.{nesting_within}
use Rattle.adapter_compile.proofs.body.compile.Goals as goal

pub nesting_of-requires : goal.nesting_of-requires
nesting_of-requires c = omega (arith, c.requires.shallow, nesting_within (code_of c.args.routine.now))

pub returns-clause-code : goal.returns-clause-code
returns-clause-code c =
    let ws = c.args.widths.now in
    let params = c.args.params in
    let code = code_of c.args.routine.now in
    let rest = take_all (length ws - params) (drop params ws) (omega (arith, length-drop params ws)) in
    let written = c.new-code-2.ensures ∙ c.in_ok-push.ensures.items ∙ ap (λ l. l ++ End ∷ []) (c.in_ok-put_routine.ensures ∙ ap (λ l. l ++ routine_code ws c.args.calls.now code) c.new-code.ensures.items) in
    let runs = c.in_ok-locals.ensures ∙ ap (λ l. declared_of l c.nesting_of.result) rest ∙ ap (declared_of (drop params ws)) c.nesting_of.ensures in
    ap (λ l. let b : Body = record { locals = l; code = c.new-code-2.result } in b) runs ∙ ap (λ l. let b : Body = record { locals = declared_of (drop params ws) (nesting code); code = l } in b) written

pub returns-clause-does : goal.returns-clause-does
returns-clause-does c =
    let ws = c.args.widths.now in
    let params = c.args.params in
    let code = code_of c.args.routine.now in
    let P : Body → Type 0 = λ b. Compiles params ws c.args.calls.now code b in
    subst P (sym (returns-clause-code c)) (compiled params ws c.args.calls.now code c.requires.fine)
