-- Bodies from their code.
use Rattle.std.proofs.Common.{◌≡◌, List, [], ◌++◌, Result, Ok, Err, IfOk, ap, ◌∙◌, append_assoc}
use Rattle.virt_base.specs.declared.fault.NoMemory.{NoMemory}
use Rattle.wasm_ast.specs.declared.module.Body.{Body}
use Rattle.wasm_ast.specs.declared.instr.Instr.{Instr}

pub if_ok_map : (r : Result Body NoMemory) (P Q : Body → Type 0) → IfOk r P → ((b : Body) → P b → Q b) → IfOk r Q
if_ok_map (Ok b) P Q p f = f b p
if_ok_map (Err e) P Q p f = tt

-- three parts that were put one after another
pub three_parts : (x y z o1 o2 o3 o4 : List Instr) → o1 ≡ [] → o2 ≡ o1 ++ x → o3 ≡ o2 ++ y → o4 ≡ o3 ++ z → o4 ≡ x ++ (y ++ z)
three_parts x y z o1 o2 o3 o4 e1 e2 e3 e4 =
    e4 ∙ ap (λ l. l ++ z) (e3 ∙ ap (λ l. l ++ y) (e2 ∙ ap (λ l. l ++ x) e1)) ∙ append_assoc x y z
