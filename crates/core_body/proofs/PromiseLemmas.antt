-- Each instruction finds its operands.
use Rattle.std.proofs.Common.{◌≡◌, refl, sym, ◌∙◌, ap, subst, List, [], ◌∷◌, ◌++◌, reverse, slice_get}
use Rattle.std.proofs.lemmas.List.{reverse-append, map-append}
use Rattle.virt_base.specs.declared.core_type.CoreType.{CoreType}
use Rattle.virt_base.specs.declared.core_type.CoreType.TheVariants.{I32, I64}
use Rattle.wasm_ast.specs.declared.instr.Instr.{Instr}
use Rattle.wasm_ast.specs.declared.instr.Instr.TheVariants as code
use Rattle.core_body.specs.declared.operand.Operand.{Operand}
use Rattle.core_body.specs.declared.operand.Operand.TheVariants.{Known}
use Rattle.core_body.specs.Context.{Context, function_type}
use Rattle.core_body.specs.Shapes.{Shape, Missing, Fixed, AnyOperand, TwoNumbers, OneReference, shape, select_shape, call_shape, indirect_shape}
use Rattle.core_body.specs.Typing.{Labels, Tree, Leaf, Block, Loop, If, IfElse, AllBelow, Types, HasShape, Typed, TypedOne, operands}
use Rattle.core_body.specs.Promise.{known, MayGoOn, GoesOn, OperandsAreFound}

-- values stand only where operands of their types are due
known-all : (held : List CoreType) (os : List Operand) → AllBelow (known held) os → os ≡ known held
known-all [] [] h = refl
known-all [] (o ∷ os) h = absurd h
known-all (t ∷ held) [] h = absurd h
known-all (t ∷ held) (o ∷ os) h = let e = known-all held os h.1 in let f = h.0 in cc

record Split (held : List CoreType) (ps below : List Operand) : Type 0 where
  pub takes : List CoreType
  pub rest : List CoreType
  pub whole : held ≡ takes ++ rest
  pub first : ps ≡ known takes
  pub others : below ≡ known rest

split-of : (held : List CoreType) (ps below : List Operand) → AllBelow (known held) (ps ++ below) → Split held ps below
split-of held [] below h = record { takes = []; rest = held; whole = refl; first = refl; others = known-all held below h }
split-of [] (p ∷ ps) below h = absurd h
split-of (t ∷ held) (p ∷ ps) below h =
    let s = split-of held ps below h.1 in
    record {
      takes = t ∷ s.takes;
      rest = s.rest;
      whole = ap (λ l. t ∷ l) s.whole;
      first = ap (λ o. o ∷ ps) (sym h.0) ∙ ap (λ l. Known t ∷ l) s.first;
      others = s.others;
    }

known-reverse : (ts : List CoreType) → reverse (known ts) ≡ known (reverse ts)
known-reverse [] = refl
known-reverse (t ∷ ts) =
    reverse-append (Known t ∷ []) (known ts) ∙ ap (λ l. l ++ Known t ∷ []) (known-reverse ts)
    ∙ sym (ap known (reverse-append (t ∷ []) ts) ∙ map-append (λ u. Known u) (reverse ts) (t ∷ []))

operands-known : (ts : List CoreType) (rs : List Operand) → rs ≡ operands ts → (us : List CoreType) × (rs ≡ known us)
operands-known ts rs e = (reverse ts, e ∙ known-reverse ts)

number-known : (takes : List CoreType) (o : Operand) (rs : List Operand) → known takes ≡ Known I32 ∷ o ∷ o ∷ [] → rs ≡ o ∷ [] → (us : List CoreType) × (rs ≡ known us)
number-known [] o rs e f = cc
number-known (a ∷ []) o rs e f = cc
number-known (a ∷ b ∷ ts) o rs e f = let g : o ≡ Known b = cc in (b ∷ [], f ∙ ap (λ x. x ∷ []) g)

shape-known : (s : Shape) (takes : List CoreType) (rs : List Operand) → HasShape s (known takes) rs → (us : List CoreType) × (rs ≡ known us)
shape-known Missing takes rs h = absurd h
shape-known (Fixed params results) takes rs h = operands-known results rs h.1
shape-known AnyOperand takes rs h = ([], h.2)
shape-known TwoNumbers takes rs h = number-known takes h.0 rs h.2 h.3
shape-known OneReference takes rs h = (I32 ∷ [], h.3)

label-known : (takes : List CoreType) (l rs : List Operand) → known takes ≡ Known I32 ∷ l → rs ≡ l → (us : List CoreType) × (rs ≡ known us)
label-known [] l rs e f = cc
label-known (a ∷ ts) l rs e f = let g : l ≡ known ts = cc in (ts, f ∙ g)

leaf-known : (c : Context) (labels : Labels) (i : Instr) (takes : List CoreType) (rs : List Operand) → Types c labels i (known takes) rs → MayGoOn i → (us : List CoreType) × (rs ≡ known us)
leaf-known c labels (code.Plain o) takes rs h g = shape-known (shape c o) takes rs h
leaf-known c labels (code.I64Const n) takes rs h g = shape-known (Fixed [] (I64 ∷ [])) takes rs h
leaf-known c labels (code.SelectTyped ts) takes rs h g = shape-known (select_shape ts) takes rs h
leaf-known c labels (code.Call n) takes rs h g = shape-known (call_shape (function_type c n)) takes rs h
leaf-known c labels (code.CallIndirect ty table) takes rs h g = shape-known (indirect_shape (slice_get c.tables table) (slice_get c.types ty)) takes rs h
leaf-known c labels (code.BrIf n) takes rs h g = label-known takes h.0 rs h.2 h.3
leaf-known c labels code.Unreachable takes rs h g = absurd g
leaf-known c labels (code.Br n) takes rs h g = absurd g
leaf-known c labels (code.BrTable b) takes rs h g = absurd g
leaf-known c labels code.Return takes rs h g = absurd g
leaf-known c labels (code.Block n) takes rs h g = absurd h
leaf-known c labels (code.Loop n) takes rs h g = absurd h
leaf-known c labels (code.If n) takes rs h g = absurd h
leaf-known c labels code.Else takes rs h g = absurd h
leaf-known c labels code.End takes rs h g = absurd h

tree-known : (c : Context) (labels : Labels) (t : Tree) (takes : List CoreType) (rs : List Operand) → TypedOne c labels t (known takes) rs → GoesOn t → (us : List CoreType) × (rs ≡ known us)
tree-known c labels (Leaf i) takes rs h g = leaf-known c labels i takes rs h g
tree-known c labels (Block n body) takes rs h g = operands-known h.0.results rs h.3
tree-known c labels (Loop n body) takes rs h g = operands-known h.0.results rs h.3
tree-known c labels (If n then) takes rs h g = operands-known h.0.results rs h.3
tree-known c labels (IfElse n then else) takes rs h g = operands-known h.0.results rs h.3

pub operands-found : OperandsAreFound
operands-found c labels t ts held after d =
    let s = split-of held d.0 d.2 d.3 in
    let P : List Operand → Type 0 = λ ps. TypedOne c labels t ps d.1 in
    let Q : List Operand → Type 0 = λ below. Typed c labels ts (d.1 ++ below) after in
    let one = subst P s.first d.4 in
    record {
      takes = s.takes;
      rest = s.rest;
      results = d.1;
      split = s.whole;
      typed = one;
      leaves = tree-known c labels t s.takes d.1 one;
      behind = subst Q s.others d.5;
    }
