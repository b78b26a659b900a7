use Rattle.std.proofs.Common.{◌∷◌, [], ◌++◌, List, ℕ, ap, ◌∙◌}
use Rattle.std.proofs.lemmas.Result.{on_ok_weaker}
use Rattle.virt_base.proofs.LebLaws.{one_then}
use Rattle.wasm_ast.specs.declared.instr.Op.TheVariants.{Load}
use Rattle.wasm_ast.specs.declared.instr.Instr.TheVariants.{Plain}
use Rattle.wasm_ast.specs.Instructions.{mem_arg, load_code, instr_of}
use Rattle.core_write.proofs.Opcodes.{load_written}
use Rattle.core_write.proofs.ops.put_load.Goals as goal

pub returns : goal.returns
returns c =
    let op = c.args.op in
    let place = c.args.place.now in
    let code : ℕ = load_code op in
    on_ok_weaker c.write.result
    (λ e. one_then c.args.out.now.items c.put_byte.new.out.items c.write.new.out.items (mem_arg.write place) code (code ∷ (instr_of code).write (Plain (Load op place)))
    (ap (λ (z : List ℕ). code ∷ z) (load_written op place)) (c.in_ok-put_byte.ensures ∙ ap (λ (b : ℕ). c.args.out.now.items ++ b ∷ []) c.load_code.ensures) e)
    c.write.ensures
