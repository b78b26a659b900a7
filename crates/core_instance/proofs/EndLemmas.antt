-- The code of a valid body has a place for each end.
use Rattle.std.proofs.Common.{◌≡◌, List, [], ◌∷◌, Bool, true, false, Some, refl, ap, ◌∙◌}
use Rattle.std.specs.Option.{option_and_then}
use Rattle.wasm_ast.specs.declared.instr.Instr.{Instr}
use Rattle.wasm_ast.specs.declared.instr.Instr.TheVariants as code
use Rattle.core_body.specs.declared.operand.Operand.{Operand}
use Rattle.core_body.specs.Context.{Context}
use Rattle.core_body.specs.Typing.{Trees, Leaf, Block, Loop, If, IfElse, Nil, Cons, spell, Labels, Types, Typed, IsValidBody}
use Rattle.core_store.specs.declared.brackets.Shape.TheVariants.{Opener, Middle, Closer, Inner}
use Rattle.core_store.specs.Brackets.{opened, ends_of}

-- an instruction that has a type is no bracket
leaf_ends : (c : Context) (labels : Labels) (i : Instr) (ps rs : List Operand) (rest : List Instr) (ends : List Bool) → Types c labels i ps rs → ends_of rest ≡ Some ends → ends_of (i ∷ rest) ≡ Some ends
leaf_ends c labels (code.Plain o) ps rs rest ends t e = ap (option_and_then (opened Inner)) e
leaf_ends c labels (code.I64Const n) ps rs rest ends t e = ap (option_and_then (opened Inner)) e
leaf_ends c labels (code.SelectTyped ts) ps rs rest ends t e = ap (option_and_then (opened Inner)) e
leaf_ends c labels code.Unreachable ps rs rest ends t e = ap (option_and_then (opened Inner)) e
leaf_ends c labels (code.Block n) ps rs rest ends t e = absurd t
leaf_ends c labels (code.Loop n) ps rs rest ends t e = absurd t
leaf_ends c labels (code.If n) ps rs rest ends t e = absurd t
leaf_ends c labels code.Else ps rs rest ends t e = absurd t
leaf_ends c labels code.End ps rs rest ends t e = absurd t
leaf_ends c labels (code.Br n) ps rs rest ends t e = ap (option_and_then (opened Inner)) e
leaf_ends c labels (code.BrIf n) ps rs rest ends t e = ap (option_and_then (opened Inner)) e
leaf_ends c labels (code.BrTable b) ps rs rest ends t e = ap (option_and_then (opened Inner)) e
leaf_ends c labels code.Return ps rs rest ends t e = ap (option_and_then (opened Inner)) e
leaf_ends c labels (code.Call n) ps rs rest ends t e = ap (option_and_then (opened Inner)) e
leaf_ends c labels (code.CallIndirect ty table) ps rs rest ends t e = ap (option_and_then (opened Inner)) e

closed : (rest : List Instr) (ends : List Bool) → ends_of rest ≡ Some ends → ends_of (code.End ∷ rest) ≡ Some (false ∷ ends)
closed rest ends e = ap (option_and_then (opened Closer)) e

-- typed code leaves open what is open after it
pub spelled_ends : (c : Context) (t : Trees) (labels : Labels) (before after : List Operand) (rest : List Instr) (ends : List Bool) → Typed c labels t before after → ends_of rest ≡ Some ends → ends_of (spell t rest) ≡ Some ends
spelled_ends c Nil labels before after rest ends d e = e
spelled_ends c (Cons (Leaf i) ts) labels before after rest ends d e =
    leaf_ends c labels i d.0 d.1 (spell ts rest) ends d.4 (spelled_ends c ts labels _ after rest ends d.5 e)
spelled_ends c (Cons (Block n body) ts) labels before after rest ends d e =
    ap (option_and_then (opened Opener)) (spelled_ends c body _ _ _ (code.End ∷ spell ts rest) (false ∷ ends) d.4.4 (closed (spell ts rest) ends (spelled_ends c ts labels _ after rest ends d.5 e)))
spelled_ends c (Cons (Loop n body) ts) labels before after rest ends d e =
    ap (option_and_then (opened Opener)) (spelled_ends c body _ _ _ (code.End ∷ spell ts rest) (false ∷ ends) d.4.4 (closed (spell ts rest) ends (spelled_ends c ts labels _ after rest ends d.5 e)))
spelled_ends c (Cons (If n then) ts) labels before after rest ends d e =
    ap (option_and_then (opened Opener)) (spelled_ends c then _ _ _ (code.End ∷ spell ts rest) (false ∷ ends) d.4.5 (closed (spell ts rest) ends (spelled_ends c ts labels _ after rest ends d.5 e)))
spelled_ends c (Cons (IfElse n then else) ts) labels before after rest ends d e =
    let tail = closed (spell ts rest) ends (spelled_ends c ts labels _ after rest ends d.5 e) in
    let behind = ap (option_and_then (opened Middle)) (spelled_ends c else _ _ _ (code.End ∷ spell ts rest) (false ∷ ends) d.4.5 tail) in
    ap (option_and_then (opened Opener)) (spelled_ends c then _ _ _ (code.Else ∷ spell else (code.End ∷ spell ts rest)) (true ∷ ends) d.4.4 behind)

-- the code of a valid body, or a constant expression, closes all that it opens
pub valid_ends : (c : Context) (body : List Instr) → IsValidBody c body → ends_of body ≡ Some (false ∷ [])
valid_ends c body v =
    ap ends_of v.spelled ∙ spelled_ends c v.trees _ [] _ (code.End ∷ []) (false ∷ []) v.typed refl
