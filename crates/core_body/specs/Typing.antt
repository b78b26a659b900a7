-- The typing of instruction sequences (WebAssembly Core 2.0, sections 3.3.8 and 3.3.9). A list of operand types has
-- the top of the stack first.
use Rattle.std.specs.Prelude.{◌≡◌, ℕ, Option, Some, None, List, [], ◌∷◌, ◌++◌, map, reverse, slice_get}
use Rattle.std.specs.Option.{option_and_then}
use Rattle.virt_base.specs.declared.core_type.CoreType.{CoreType}
use Rattle.virt_base.specs.declared.core_type.CoreType.TheVariants.{I32, I64, Funcref, Externref}
use Rattle.wasm_ast.specs.declared.module.CoreFunc.{CoreFunc}
use Rattle.wasm_ast.specs.declared.instr.BlockType.{BlockType}
use Rattle.wasm_ast.specs.declared.instr.Instr.{Instr}
use Rattle.wasm_ast.specs.declared.instr.Instr.TheVariants as code
use Rattle.core_body.specs.declared.operand.Operand.{Operand}
use Rattle.core_body.specs.declared.operand.Operand.TheVariants.{Any, Known}
use Rattle.core_body.specs.Context.{Context, function_type, block_type}
use Rattle.core_body.specs.Shapes.{Shape, Missing, Fixed, AnyOperand, TwoNumbers, OneReference, shape, select_shape, call_shape, indirect_shape}

-- structured code: an instruction, or a block of a type with its body (section 2.4.8)
mutual
  pub data Tree : Type 0 where
    Leaf : (instr : Instr) → Tree
    Block : (type : BlockType) (body : Trees) → Tree
    Loop : (type : BlockType) (body : Trees) → Tree
    If : (type : BlockType) (then : Trees) → Tree
    IfElse : (type : BlockType) (then else : Trees) → Tree

  pub data Trees : Type 0 where
    Nil : Trees
    Cons : Tree → Trees → Trees

-- the flat list that stands for a sequence, in front of what follows it (section 5.4.1)
abbrev mutual
  pub spell_one : Tree → List Instr → List Instr
  spell_one (Leaf i) rest = i ∷ rest
  spell_one (Block n body) rest = code.Block n ∷ spell body (code.End ∷ rest)
  spell_one (Loop n body) rest = code.Loop n ∷ spell body (code.End ∷ rest)
  spell_one (If n then) rest = code.If n ∷ spell then (code.End ∷ rest)
  spell_one (IfElse n then else) rest = code.If n ∷ spell then (code.Else ∷ spell else (code.End ∷ rest))

  pub spell : Trees → List Instr → List Instr
  spell Nil rest = rest
  spell (Cons t ts) rest = spell_one t (spell ts rest)

-- the operands of a list of value types, the last on top
abbrev pub operands : List CoreType → List Operand
operands ts = reverse (map Known ts)

-- an operand of the first type may stand where one of the second is due: the bottom type is below each other
abbrev pub Below : Operand → Operand → Type 0
Below Any o = Unit {0}
Below (Known t) o = Known t ≡ o

abbrev pub AllBelow : List Operand → List Operand → Type 0
AllBelow [] [] = Unit {0}
AllBelow [] (y ∷ ys) = ⊥
AllBelow (x ∷ xs) [] = ⊥
AllBelow (x ∷ xs) (y ∷ ys) = Below x y × AllBelow xs ys

-- a select without types takes numbers
abbrev pub IsNumber : Operand → Type 0
IsNumber Any = Unit {0}
IsNumber (Known I32) = Unit {0}
IsNumber (Known I64) = Unit {0}
IsNumber (Known Funcref) = ⊥
IsNumber (Known Externref) = ⊥

abbrev pub IsReference : CoreType → Type 0
IsReference I32 = ⊥
IsReference I64 = ⊥
IsReference Funcref = Unit {0}
IsReference Externref = Unit {0}

-- the operand types that the labels around an instruction take, the innermost first; none for a level that is
-- the target of no branch, as the outermost of a constant expression
abbrev pub Labels : Type 0
Labels = List (Option (List Operand))

abbrev pub label_at : Labels → ℕ → Option (List Operand)
label_at labels n = option_and_then (λ l. l) (slice_get labels n)

-- each of the labels takes the operands
abbrev pub EachTakes : Labels → List Operand → List ℕ → Type 0
EachTakes labels l [] = Unit {0}
EachTakes labels l (m ∷ ms) = ((to : List Operand) × (label_at labels m ≡ Some to) × AllBelow l to) × EachTakes labels l ms

-- an instruction of this type takes the first operands and leaves the others
abbrev pub HasShape : Shape → List Operand → List Operand → Type 0
HasShape Missing ps rs = ⊥
HasShape (Fixed params results) ps rs = (ps ≡ operands params) × (rs ≡ operands results)
HasShape AnyOperand ps rs = (o : Operand) × (ps ≡ o ∷ []) × (rs ≡ [])
HasShape TwoNumbers ps rs = (o : Operand) × IsNumber o × (ps ≡ Known I32 ∷ o ∷ o ∷ []) × (rs ≡ o ∷ [])
HasShape OneReference ps rs = (t : CoreType) × IsReference t × (ps ≡ Known t ∷ []) × (rs ≡ Known I32 ∷ [])

-- the operands that an instruction takes and leaves. What never goes on takes any operands besides, and leaves any
abbrev pub Types : Context → Labels → Instr → List Operand → List Operand → Type 0
Types c labels (code.Plain o) ps rs = HasShape (shape c o) ps rs
Types c labels (code.I64Const n) ps rs = HasShape (Fixed [] (I64 ∷ [])) ps rs
Types c labels (code.SelectTyped ts) ps rs = HasShape (select_shape ts) ps rs
Types c labels (code.Call n) ps rs = HasShape (call_shape (function_type c n)) ps rs
Types c labels (code.CallIndirect ty table) ps rs = HasShape (indirect_shape (slice_get c.tables table) (slice_get c.types ty)) ps rs
Types c labels code.Unreachable ps rs = Unit {0}
Types c labels (code.Br n) ps rs = (l : List Operand) × (label_at labels n ≡ Some l) × (any : List Operand) × (ps ≡ l ++ any)
Types c labels (code.BrIf n) ps rs = (l : List Operand) × (label_at labels n ≡ Some l) × (ps ≡ Known I32 ∷ l) × (rs ≡ l)
Types c labels (code.BrTable table) ps rs =
    (l : List Operand) × (any : List Operand) × EachTakes labels l (table.value.default ∷ table.value.labels) × (ps ≡ Known I32 ∷ l ++ any)
Types c labels code.Return ps rs = (ts : List CoreType) × (c.results ≡ Some ts) × (any : List Operand) × (ps ≡ operands ts ++ any)
Types c labels _ ps rs = ⊥

-- the operand types before and after a sequence. An instruction leaves what stands below its operands,
-- and an operand of any type below the one that is due will do
abbrev mutual
  pub TypedOne : Context → Labels → Tree → List Operand → List Operand → Type 0
  TypedOne c labels (Leaf i) ps rs = Types c labels i ps rs
  TypedOne c labels (Block n body) ps rs =
      (f : CoreFunc) × (block_type c n ≡ Some f) × (ps ≡ operands f.params) × (rs ≡ operands f.results)
      × Typed c (Some rs ∷ labels) body ps rs
  TypedOne c labels (Loop n body) ps rs =
      (f : CoreFunc) × (block_type c n ≡ Some f) × (ps ≡ operands f.params) × (rs ≡ operands f.results)
      × Typed c (Some ps ∷ labels) body ps rs
  -- an if without an else leaves what it takes, but for its condition
  TypedOne c labels (If n then) ps rs =
      (f : CoreFunc) × (block_type c n ≡ Some f) × (ps ≡ Known I32 ∷ operands f.params) × (rs ≡ operands f.results)
      × (operands f.params ≡ operands f.results) × Typed c (Some rs ∷ labels) then (operands f.params) rs
  TypedOne c labels (IfElse n then else) ps rs =
      (f : CoreFunc) × (block_type c n ≡ Some f) × (ps ≡ Known I32 ∷ operands f.params) × (rs ≡ operands f.results)
      × Typed c (Some rs ∷ labels) then (operands f.params) rs × Typed c (Some rs ∷ labels) else (operands f.params) rs

  pub Typed : Context → Labels → Trees → List Operand → List Operand → Type 0
  Typed c labels Nil before after = AllBelow before after
  Typed c labels (Cons t ts) before after =
      (ps : List Operand) × (rs : List Operand) × (below : List Operand)
      × AllBelow before (ps ++ below) × TypedOne c labels t ps rs × Typed c labels ts (rs ++ below) after

-- the outermost level: a body is the target of branches, a constant expression of none
abbrev pub outermost : Option (List CoreType) → Option (List Operand)
outermost None = None
outermost (Some ts) = Some (operands ts)

-- code, which ends with an End, leaves just what is due (sections 3.3.9, 3.3.10 and 3.4.1)
pub record IsValidBody (c : Context) (body : List Instr) : Type 0 where
  pub trees : Trees
  pub spelled : body ≡ spell trees (code.End ∷ [])
  pub typed : Typed c (outermost c.results ∷ []) trees [] (operands c.due)
