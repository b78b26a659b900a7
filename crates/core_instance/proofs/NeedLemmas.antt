-- The conditions of code, as what each of its instructions needs.
use Rattle.std.proofs.Common.{ℕ, List, [], ◌∷◌, ◌++◌, true}
use Rattle.wasm_ast.specs.declared.instr.Instr.{Instr}
use Rattle.wasm_ast.specs.declared.instr.Instr.TheVariants as code
use Rattle.core_body.specs.Context.{Context}
use Rattle.core_body.specs.Conditions.{Condition, conditions, op_conditions, place_conditions, labels_behind, code_conditions}
use Rattle.core_body.specs.Typing.{Trees, Leaf, Block, Loop, If, IfElse, Nil, Cons, spell}
use Rattle.core_instance.specs.Sound.{AllMet}

-- what types do not say of an instruction
abbrev pub Needs : Context → Instr → Type 0
Needs c (code.Plain o) = AllMet c (op_conditions o)
Needs c _ = Unit {0}

abbrev pub EachNeeds : Context → List Instr → Type 0
EachNeeds c [] = Unit {0}
EachNeeds c (i ∷ is) = Needs c i × EachNeeds c is

met_first : (c : Context) (xs ys : List Condition) → AllMet c (xs ++ ys) → AllMet c xs
met_first c [] ys h = tt
met_first c (x ∷ xs) ys h = (h.0, met_first c xs ys h.1)

met_behind : (c : Context) (xs ys : List Condition) → AllMet c (xs ++ ys) → AllMet c ys
met_behind c [] ys h = h
met_behind c (x ∷ xs) ys h = met_behind c xs ys h.1

need : (c : Context) (n : ℕ) (i : Instr) → AllMet c (conditions n i) → Needs c i
need c n (code.Plain o) h = h
need c n (code.I64Const v) h = tt
need c n (code.SelectTyped ts) h = tt
need c n code.Unreachable h = tt
need c n (code.Block t) h = tt
need c n (code.Loop t) h = tt
need c n (code.If t) h = tt
need c n code.Else h = tt
need c n code.End h = tt
need c n (code.Br k) h = tt
need c n (code.BrIf k) h = tt
need c n (code.BrTable b) h = tt
need c n code.Return h = tt
need c n (code.Call f) h = tt
need c n (code.CallIndirect ty table) h = tt

pub needs : (c : Context) (n : ℕ) (is : List Instr) → AllMet c (code_conditions true n is) → EachNeeds c is
needs c n [] h = tt
needs c n (i ∷ is) h =
    let more = place_conditions true i ++ code_conditions true (labels_behind n i) is in
    (need c n i (met_first c (conditions n i) more h), needs c (labels_behind n i) is (met_behind c (place_conditions true i) _ (met_behind c (conditions n i) more h)))

-- after a sequence
pub needs_behind : (c : Context) (t : Trees) (rest : List Instr) → EachNeeds c (spell t rest) → EachNeeds c rest
needs_behind c Nil rest h = h
needs_behind c (Cons (Leaf i) ts) rest h = needs_behind c ts rest h.1
needs_behind c (Cons (Block n body) ts) rest h = needs_behind c ts rest (needs_behind c body (code.End ∷ spell ts rest) h.1).1
needs_behind c (Cons (Loop n body) ts) rest h = needs_behind c ts rest (needs_behind c body (code.End ∷ spell ts rest) h.1).1
needs_behind c (Cons (If n then) ts) rest h = needs_behind c ts rest (needs_behind c then (code.End ∷ spell ts rest) h.1).1
needs_behind c (Cons (IfElse n then else) ts) rest h =
    needs_behind c ts rest (needs_behind c else (code.End ∷ spell ts rest) (needs_behind c then (code.Else ∷ spell else (code.End ∷ spell ts rest)) h.1).1).1
