-- The trees of the typing rules as those of the code.
use Rattle.std.proofs.Common.{◌≡◌, List, [], ◌∷◌, refl, ap, ◌∙◌}
use Rattle.wasm_ast.specs.declared.instr.Instr.{Instr}
use Rattle.wasm_ast.specs.declared.instr.Instr.TheVariants as code
use Rattle.core_body.specs.declared.operand.Operand.{Operand}
use Rattle.core_body.specs.Context.{Context}
use Rattle.core_body.specs.Typing.{Trees, Leaf, Block, Loop, If, IfElse, Nil, Cons, spell, Labels, Types, Typed, IsValidBody}
use Rattle.core_store.specs.Tree.{Seq, Stop, Then, InBlock, InLoop, InIf, Part, first, onto, placed, parts, tree}

-- a sequence before what follows it
abbrev pub seq : Trees → Seq → Seq
seq Nil rest = rest
seq (Cons (Leaf i) ts) rest = Then i (seq ts rest)
seq (Cons (Block n body) ts) rest = InBlock n (seq body Stop) (seq ts rest)
seq (Cons (Loop n body) ts) rest = InLoop n (seq body Stop) (seq ts rest)
seq (Cons (If n then) ts) rest = InIf n (seq then Stop) Stop (seq ts rest)
seq (Cons (IfElse n then else) ts) rest = InIf n (seq then Stop) (seq else Stop) (seq ts rest)

-- an instruction that has a type is no bracket
leaf_placed : (c : Context) (labels : Labels) (i : Instr) (ps rs : List Operand) (qs : List Part) → Types c labels i ps rs → placed i qs ≡ onto (Then i) qs
leaf_placed c labels (code.Plain o) ps rs qs t = refl
leaf_placed c labels (code.I64Const n) ps rs qs t = refl
leaf_placed c labels (code.SelectTyped ts) ps rs qs t = refl
leaf_placed c labels code.Unreachable ps rs qs t = refl
leaf_placed c labels (code.Block n) ps rs qs t = absurd t
leaf_placed c labels (code.Loop n) ps rs qs t = absurd t
leaf_placed c labels (code.If n) ps rs qs t = absurd t
leaf_placed c labels code.Else ps rs qs t = absurd t
leaf_placed c labels code.End ps rs qs t = absurd t
leaf_placed c labels (code.Br n) ps rs qs t = refl
leaf_placed c labels (code.BrIf n) ps rs qs t = refl
leaf_placed c labels (code.BrTable b) ps rs qs t = refl
leaf_placed c labels code.Return ps rs qs t = refl
leaf_placed c labels (code.Call n) ps rs qs t = refl
leaf_placed c labels (code.CallIndirect ty table) ps rs qs t = refl

abbrev part : Seq → Seq → Part
part here other = record { here = here; other = other }

-- typed code stands before what is left after it
spelled_parts : (c : Context) (t : Trees) (labels : Labels) (before after : List Operand) (rest : List Instr) (here other : Seq) (qs : List Part) →
    Typed c labels t before after → parts rest ≡ part here other ∷ qs → parts (spell t rest) ≡ part (seq t here) other ∷ qs
spelled_parts c Nil labels before after rest here other qs d e = e
spelled_parts c (Cons (Leaf i) ts) labels before after rest here other qs d e =
    leaf_placed c labels i d.0 d.1 (parts (spell ts rest)) d.4 ∙ ap (onto (Then i)) (spelled_parts c ts labels _ after rest here other qs d.5 e)
spelled_parts c (Cons (Block n body) ts) labels before after rest here other qs d e =
    let tail = ap (placed code.End) (spelled_parts c ts labels _ after rest here other qs d.5 e) in
    ap (placed (code.Block n)) (spelled_parts c body _ _ _ (code.End ∷ spell ts rest) Stop Stop (part (seq ts here) other ∷ qs) d.4.4 tail)
spelled_parts c (Cons (Loop n body) ts) labels before after rest here other qs d e =
    let tail = ap (placed code.End) (spelled_parts c ts labels _ after rest here other qs d.5 e) in
    ap (placed (code.Loop n)) (spelled_parts c body _ _ _ (code.End ∷ spell ts rest) Stop Stop (part (seq ts here) other ∷ qs) d.4.4 tail)
spelled_parts c (Cons (If n then) ts) labels before after rest here other qs d e =
    let tail = ap (placed code.End) (spelled_parts c ts labels _ after rest here other qs d.5 e) in
    ap (placed (code.If n)) (spelled_parts c then _ _ _ (code.End ∷ spell ts rest) Stop Stop (part (seq ts here) other ∷ qs) d.4.5 tail)
spelled_parts c (Cons (IfElse n then else) ts) labels before after rest here other qs d e =
    let tail = ap (placed code.End) (spelled_parts c ts labels _ after rest here other qs d.5 e) in
    let behind = ap (placed code.Else) (spelled_parts c else _ _ _ (code.End ∷ spell ts rest) Stop Stop (part (seq ts here) other ∷ qs) d.4.5 tail) in
    ap (placed (code.If n)) (spelled_parts c then _ _ _ (code.Else ∷ spell else (code.End ∷ spell ts rest)) Stop (seq else Stop) (part (seq ts here) other ∷ qs) d.4.4 behind)

-- the tree of a valid body
pub valid_tree : (c : Context) (body : List Instr) (v : IsValidBody c body) → tree body ≡ seq v.trees Stop
valid_tree c body v =
    ap tree v.spelled ∙ ap (λ (qs : List Part). (first qs).here) (spelled_parts c v.trees _ [] _ (code.End ∷ []) Stop Stop [] v.typed refl)
