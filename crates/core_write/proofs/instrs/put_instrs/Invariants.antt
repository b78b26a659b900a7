use Rattle.std.proofs.Common.{◌≡◌, ◌++◌, drop, true}
use Rattle.std.specs.List.{AllByRecursion}
use Rattle.wasm_format.specs.Format.{write_items}
use Rattle.wasm_ast.specs.Instructions.{instr}
use Rattle.core_write.proofs.instrs.put_instrs.Given as goal

abbrev pub invariant-loop-instr : goal.invariant-loop-instr
invariant-loop-instr l =
    let F = instr true in
    record {
      written : l.out.items ++ write_items F (drop l.instr-index l.instrs) ≡ l.fn.out.items ++ write_items F l.instrs;
      fits : AllByRecursion F.Fits (drop l.instr-index l.instrs);
    }
