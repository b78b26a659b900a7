-- The least rule that code breaks, with that on operand types, as one pass finds it.
use Rattle.std.specs.Prelude.{ℕ, Bool, true, false, Option, Some, List, ◌++◌}
use Rattle.virt_base.specs.declared.core_type.CoreType.{CoreType}
use Rattle.wasm_ast.specs.declared.module.Body.{Body}
use Rattle.wasm_ast.specs.declared.instr.Instr.{Instr}
use Rattle.core_body.specs.Context.{Context}
use Rattle.core_body.specs.Conditions.{lesser, least, broken, code_conditions, FewLocals}
use Rattle.core_body.specs.Locals.{spread}
use Rattle.core_body.specs.Machine.{run, start, is_finished}
use Rattle.core_body.specs.Views.{in_body, in_expression}

abbrev pub accepts : Context → List Instr → Bool
accepts c code = is_finished (run c (start c) code)

-- a rule, or that on operand types where these are at fault and it is the lesser
abbrev pub with_types : Option ℕ → Bool → Option ℕ
with_types rule true = rule
with_types rule false = lesser rule (Some 7)

-- a body is the target of branches, an expression is not
abbrev pub first_labels : Bool → ℕ
first_labels true = 1
first_labels false = 0

abbrev pub code_fault : Context → Bool → List Instr → Option ℕ
code_fault c in_body code = with_types (least c (code_conditions in_body (first_labels in_body) code)) (accepts c code)

abbrev pub body_fault : Context → List CoreType → List CoreType → Body → Option ℕ
body_fault c params results body =
    lesser (broken c (FewLocals body.locals)) (code_fault (in_body c (params ++ spread body.locals) results) true body.code)

abbrev pub expression_fault : Context → CoreType → List Instr → Option ℕ
expression_fault c t code = code_fault (in_expression c t) false code
