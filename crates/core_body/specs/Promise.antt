-- What valid code promises to a machine that runs it: each instruction finds operands of the types that it takes, and
-- where it goes on to the next it leaves operands of known types.
use Rattle.std.specs.Prelude.{◌≡◌, List, ◌++◌, map}
use Rattle.virt_base.specs.declared.core_type.CoreType.{CoreType}
use Rattle.wasm_ast.specs.declared.instr.Instr.{Instr}
use Rattle.wasm_ast.specs.declared.instr.Instr.TheVariants as code
use Rattle.core_body.specs.declared.operand.Operand.{Operand}
use Rattle.core_body.specs.declared.operand.Operand.TheVariants.{Known}
use Rattle.core_body.specs.Context.{Context}
use Rattle.core_body.specs.Typing.{Labels, Tree, Trees, Leaf, Cons, Typed, TypedOne}

-- the types of values on a stack, the top first, as operand types
abbrev pub known : List CoreType → List Operand
known ts = map (λ t. Known t) ts

-- after an unconditional jump the next instruction is never reached
abbrev pub MayGoOn : Instr → Type 0
MayGoOn code.Unreachable = ⊥
MayGoOn (code.Br n) = ⊥
MayGoOn (code.BrTable table) = ⊥
MayGoOn code.Return = ⊥
MayGoOn _ = Unit {0}

abbrev pub GoesOn : Tree → Type 0
GoesOn (Leaf i) = MayGoOn i
GoesOn _ = Unit {0}

-- of the values held, the instruction takes the first, whose types are right; the rest of the sequence is typed after it
pub record Finds (c : Context) (labels : Labels) (t : Tree) (ts : Trees) (held : List CoreType) (after : List Operand) : Type 0 where
  pub takes : List CoreType
  pub rest : List CoreType
  pub results : List Operand
  pub split : held ≡ takes ++ rest
  pub typed : TypedOne c labels t (known takes) results
  pub leaves : GoesOn t → (us : List CoreType) × (results ≡ known us)
  pub behind : Typed c labels ts (results ++ known rest) after

abbrev pub OperandsAreFound : Type 0
OperandsAreFound =
    (c : Context) (labels : Labels) (t : Tree) (ts : Trees) (held : List CoreType) (after : List Operand) →
    Typed c labels (Cons t ts) (known held) after → Finds c labels t ts held after
