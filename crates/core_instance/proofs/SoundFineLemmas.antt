-- Typed code is fine: its operands are as many as its operand types.
use Rattle.std.proofs.Common.{◌≡◌, ℕ, zero, suc, ◌+◌, ◌-◌, ◌<◌, refl, sym, ap, ◌∙◌, subst, arith, List, [], ◌∷◌, ◌++◌, length, length-append, Bool, true, false, Option, Some, None, slice_get, slice_index_or}
use Rattle.std.proofs.lemmas.Option.{slice_get_within}
use Rattle.std.specs.Prelude.{unwrap_or, if◌then◌else◌}
use Rattle.std.specs.Option.{option_and_then}
use Rattle.virt_base.specs.declared.core_type.CoreType.{CoreType}
use Rattle.virt_base.specs.declared.core_type.CoreType.TheVariants.{I32, I64}
use Rattle.wasm_ast.specs.declared.module.CoreFunc.{CoreFunc}
use Rattle.wasm_ast.specs.declared.module.TableType.{TableType}
use Rattle.wasm_ast.specs.declared.instr.BlockType.{BlockType}
use Rattle.wasm_ast.specs.declared.instr.BlockType.TheVariants.{Empty, Value, Index}
use Rattle.wasm_ast.specs.declared.instr.RefType.TheVariants as refs
use Rattle.wasm_ast.specs.declared.instr.Instr.{Instr}
use Rattle.wasm_ast.specs.declared.instr.Instr.TheVariants as code
use Rattle.core_body.specs.declared.operand.Operand.{Operand}
use Rattle.core_body.specs.Context.{Context, arrow, function_type, block_type}
use Rattle.core_body.specs.Shapes.{Missing, Fixed, same_ref, select_shape, call_shape, indirect_shape}
use Rattle.core_body.specs.Typing.{Labels, Trees, Leaf, Block, Loop, If, IfElse, Nil, Cons, spell, AllBelow, EachTakes, Types, HasShape, Typed, operands, label_at, outermost}
use Rattle.core_store.specs.Tree.{Seq, Stop}
use Rattle.core_store.specs.declared.value.CoreSpaces.{CoreSpaces}
use Rattle.core_store.specs.Config.{type_at, block_params, block_results}
use Rattle.core_store.specs.Eval.{type_of}
use Rattle.core_store.specs.Scene.{Scene}
use Rattle.core_store.specs.Fine.{Frame, Reaches, IsBlock, FineOne, Fine}
use Rattle.core_instance.specs.Sound.{Suits, BodiesAreFine}
use Rattle.core_instance.proofs.TreeLemmas.{seq, valid_tree}
use Rattle.core_instance.proofs.NeedLemmas.{Needs, EachNeeds, needs, needs_behind}
use Rattle.core_instance.proofs.ShapeLemmas.{length_operands, Counts, fixed, plainly}

all_below_length : (xs ys : List Operand) → AllBelow xs ys → length xs ≡ length ys
all_below_length [] [] h = refl
all_below_length [] (y ∷ ys) h = absurd h
all_below_length (x ∷ xs) [] h = absurd h
all_below_length (x ∷ xs) (y ∷ ys) h = ap suc (all_below_length xs ys h.1)

-- the labels of code, with as many operands as its operand types
abbrev HasArities : Labels → List ℕ → Type 0
HasArities labels ls = (k : ℕ) (to : List Operand) → label_at labels k ≡ Some to → slice_get ls k ≡ Some (length to)

arities_more : (labels : Labels) (ls : List ℕ) (to : List Operand) (arity : ℕ) → HasArities labels ls → arity ≡ length to → HasArities (Some to ∷ labels) (arity ∷ ls)
arities_more labels ls to arity h e zero us is = ap Some (e ∙ ap length (same is))
  where
    same : Some to ≡ Some us → to ≡ us
    same e = cc
arities_more labels ls to arity h e (suc k) us is = h k us is

-- the targets of a br_table
each_takes : (labels : Labels) (ls : List ℕ) (l : List Operand) (ns : List ℕ) → HasArities labels ls → EachTakes labels l ns → (k n : ℕ) → slice_get ns k ≡ Some n → Reaches ls n (length l)
each_takes labels ls l [] h t k n e = absurd (cc)
each_takes labels ls l (m ∷ ms) h t zero n e =
    let same : m ≡ n = cc in
    let first : Reaches ls m (length l) = (length t.0.0, h m t.0.0 t.0.1, omega (arith, all_below_length l t.0.0 t.0.2)) in
    subst (λ x. Reaches ls x (length l)) same first
each_takes labels ls l (m ∷ ms) h t (suc k) n e = each_takes labels ls l ms h t.1 k n e

-- an index after the list stands for the last one
chosen : (R : ℕ → Type 0) (ns : List ℕ) (d v : ℕ) → R d → ((k n : ℕ) → slice_get ns k ≡ Some n → R n) → R (slice_index_or ns v d)
chosen R [] d v r each = r
chosen R (n ∷ ns) d zero r each = each zero n refl
chosen R (n ∷ ns) d (suc v) r each = chosen R ns d v r (λ k. each (suc k))

-- what a block's type says of its operands
record BlockIs (sp : CoreSpaces) (n : BlockType) (f : CoreFunc) : Type 0 where
  pub there : IsBlock sp n
  pub params : block_params sp n ≡ length f.params
  pub results : block_results sp n ≡ length f.results

indexed : (sp : CoreSpaces) (types : List CoreFunc) (n : ℕ) (f : CoreFunc) → sp.types ≡ types → slice_get types n ≡ Some f → type_at sp n ≡ f
indexed sp types n f e is = ap (λ (o : Option CoreFunc). unwrap_or o (arrow [] [])) (subst (λ (ts : List CoreFunc). slice_get ts n ≡ Some f) (sym e) is)

type_there : (sp : CoreSpaces) (types : List CoreFunc) (n : ℕ) (f : CoreFunc) → sp.types ≡ types → slice_get types n ≡ Some f → n < length sp.types
type_there sp types n f e is = slice_get_within sp.types n f (subst (λ (ts : List CoreFunc). slice_get ts n ≡ Some f) (sym e) is)

block_is : (c : Context) (sp : CoreSpaces) (n : BlockType) (f : CoreFunc) → sp.types ≡ c.types → block_type c n ≡ Some f → BlockIs sp n f
block_is c sp Empty f e is = let same : arrow [] [] ≡ f = cc in record { there = tt; params = ap (λ (g : CoreFunc). length g.params) same; results = ap (λ (g : CoreFunc). length g.results) same }
block_is c sp (Value t) f e is =
    let same : arrow [] (t ∷ []) ≡ f = cc in record { there = tt; params = ap (λ (g : CoreFunc). length g.params) same; results = ap (λ (g : CoreFunc). length g.results) same }
block_is c sp (Index n) f e is =
    let same = indexed sp c.types n f e is in
    record { there = type_there sp c.types n f e is; params = ap (λ (g : CoreFunc). length g.params) same; results = ap (λ (g : CoreFunc). length g.results) same }

-- a call's type
called : (o : Option CoreFunc) (ps rs : List Operand) → HasShape (call_shape o) ps rs → (f : CoreFunc) × (o ≡ Some f) × HasShape (Fixed f.params f.results) ps rs
called None ps rs h = absurd h
called (Some f) ps rs h = (f, refl, h)

record Indirect (t : Option TableType) (f : Option CoreFunc) (ps rs : List Operand) : Type 0 where
  pub table : TableType
  pub callee : CoreFunc
  pub table_is : t ≡ Some table
  pub callee_is : f ≡ Some callee
  pub shaped : HasShape (Fixed (callee.params ++ I32 ∷ []) callee.results) ps rs

indirect : (t : Option TableType) (f : Option CoreFunc) (ps rs : List Operand) → HasShape (indirect_shape t f) ps rs → Indirect t f ps rs
indirect None f ps rs h = absurd h
indirect (Some t) None ps rs h = absurd h
indirect (Some t) (Some f) ps rs h = record { table = t; callee = f; table_is = refl; callee_is = refl; shaped = of_functions (same_ref t.element refs.Func) h }
  where
    of_functions : (b : Bool) → HasShape (if b then Fixed (f.params ++ I32 ∷ []) f.results else Missing) ps rs → HasShape (Fixed (f.params ++ I32 ∷ []) f.results) ps rs
    of_functions true h = h
    of_functions false h = absurd h

selected : (ts : List CoreType) (ps rs : List Operand) → HasShape (select_shape ts) ps rs → Counts ps rs 3 1
selected [] ps rs h = absurd h
selected (t ∷ []) ps rs h = fixed (t ∷ t ∷ I32 ∷ []) (t ∷ []) ps rs h
selected (t ∷ u ∷ ts) ps rs h = absurd h

function_there : (c : Context) (i : ℕ) (f : CoreFunc) → function_type c i ≡ Some f → i < length c.functions
function_there c i f e = there (slice_get c.functions i) refl e
  where
    there : (o : Option ℕ) → slice_get c.functions i ≡ o → option_and_then (λ t. slice_get c.types t) o ≡ Some f → i < length c.functions
    there None e is = absurd (cc)
    there (Some t) e is = slice_get_within c.functions i t e

module _ (c : Context) (w : Scene) (fr : Frame) (suits : Suits c w fr) where
  -- an instruction that takes the operands ps and leaves rs, on k others
  leaf_fine : (labels : Labels) (ls : List ℕ) (i : Instr) (ps rs : List Operand) (h k : ℕ) (R : ℕ → Type 0) →
      HasArities labels ls → Types c labels i ps rs → Needs c i → h ≡ length ps + k → R (length rs + k) → FineOne w fr ls h i R
  leaf_fine labels ls (code.Plain o) ps rs h k R a t m e r =
      let p = plainly c w fr suits o ps rs t m in
      let before = p.counts.before_is in let after = p.counts.after_is in
      (omega arith, p.names, subst R (omega arith) r)
  leaf_fine labels ls (code.I64Const n) ps rs h k R a t m e r =
      let p = fixed [] (I64 ∷ []) ps rs t in
      let before = p.before_is in let after = p.after_is in
      subst R (omega arith) r
  leaf_fine labels ls (code.SelectTyped ts) ps rs h k R a t m e r =
      let p = selected ts ps rs t in
      let before = p.before_is in let after = p.after_is in
      (omega arith, subst R (omega arith) r)
  leaf_fine labels ls code.Unreachable ps rs h k R a t m e r = tt
  leaf_fine labels ls (code.Block n) ps rs h k R a t m e r = absurd t
  leaf_fine labels ls (code.Loop n) ps rs h k R a t m e r = absurd t
  leaf_fine labels ls (code.If n) ps rs h k R a t m e r = absurd t
  leaf_fine labels ls code.Else ps rs h k R a t m e r = absurd t
  leaf_fine labels ls code.End ps rs h k R a t m e r = absurd t
  leaf_fine labels ls (code.Br n) ps rs h k R a t m e r =
      let long = ap length t.3 in let more = length-append t.0 t.2 in (length t.0, a n t.0 t.1, omega arith)
  leaf_fine labels ls (code.BrIf n) ps rs h k R a t m e r =
      let before = ap length t.2 in let after = ap length t.3 in
      (omega arith, (length t.0, a n t.0 t.1, omega arith), subst R (omega arith) r)
  leaf_fine labels ls (code.BrTable b) ps rs h k R a t m e r =
      let before = ap length t.3 in let more = length-append t.0 t.1 in
      let lower : (n : ℕ) → Reaches ls n (length t.0) → Reaches ls n (h - 1) = λ n x. (x.0, x.1, (let le = x.2 in omega arith)) in
      let each = each_takes labels ls t.0 (b.value.default ∷ b.value.labels) a t.2 in
      (omega arith, λ v. chosen (λ n. Reaches ls n (h - 1)) b.value.labels b.value.default v (lower b.value.default (each zero b.value.default refl)) (λ j n is. lower n (each (suc j) n is)))
  leaf_fine labels ls code.Return ps rs h k R a t m e r =
      let long = ap length t.3 in let more = length-append (operands t.0) t.2 in let count = length_operands t.0 in
      let due = suits.results t.0 t.1 in
      omega arith
  leaf_fine labels ls (code.Call n) ps rs h k R a t m e r =
      let x = called (function_type c n) ps rs t in
      let f = suits.functions n (function_there c n x.0 x.1) in
      let same : x.0 ≡ type_of f.callee = (let u = x.1 in let v = f.typed in cc) in
      let p = fixed x.0.params x.0.results ps rs x.2 in
      let before = p.before_is ∙ ap (λ (g : CoreFunc). length g.params) same in let after = p.after_is ∙ ap (λ (g : CoreFunc). length g.results) same in
      (f.place, f.callee, f.named, f.there, omega arith, subst R (omega arith) r)
  leaf_fine labels ls (code.CallIndirect ty table) ps rs h k R a t m e r =
      let x = indirect (slice_get c.tables table) (slice_get c.types ty) ps rs t in
      let p = fixed (x.callee.params ++ I32 ∷ []) x.callee.results ps rs x.shaped in
      let same = indexed fr.spaces c.types ty x.callee suits.types x.callee_is in
      let params = ap (λ (g : CoreFunc). length g.params) same in let results = ap (λ (g : CoreFunc). length g.results) same in
      let long = length-append x.callee.params (I32 ∷ []) in
      let before = p.before_is in let after = p.after_is in (
        suits.tables table (slice_get_within c.tables table x.table x.table_is),
        type_there fr.spaces c.types ty x.callee suits.types x.callee_is,
        omega arith,
        subst R (omega arith) r,
      )

  -- the operands before an instruction: those that it takes, and others
  split : (before ps below : List Operand) → AllBelow before (ps ++ below) → length before ≡ length ps + length below
  split before ps below h = all_below_length before (ps ++ below) h ∙ length-append ps below

  -- typed code before what is fine
  typed_fine : (t : Trees) (labels : Labels) (before after : List Operand) (ls : List ℕ) (ends : ℕ) (behind : Seq) (rest : List Instr) →
      Typed c labels t before after → EachNeeds c (spell t rest) → HasArities labels ls → Fine w fr ls (length after) ends behind →
      Fine w fr ls (length before) ends (seq t behind)
  typed_fine Nil labels before after ls ends behind rest d m a f = subst (λ n. Fine w fr ls n ends behind) (sym (all_below_length before after d)) f
  typed_fine (Cons (Leaf i) ts) labels before after ls ends behind rest d m a f =
      leaf_fine labels ls i d.0 d.1 (length before) (length d.2) (λ n. Fine w fr ls n ends (seq ts behind)) a d.4 m.0 (split before d.0 d.2 d.3)
      (subst (λ n. Fine w fr ls n ends (seq ts behind)) (length-append d.1 d.2) (typed_fine ts labels (d.1 ++ d.2) after ls ends behind rest d.5 m.1 a f))
  typed_fine (Cons (Block n body) ts) labels before after ls ends behind rest d m a f =
      let b = block_is c fr.spaces n d.4.0 suits.types d.4.1 in
      let params = b.params in let results = b.results in
      let takes = ap length d.4.2 ∙ length_operands d.4.0.params in let leaves = ap length d.4.3 ∙ length_operands d.4.0.results in
      let long = split before d.0 d.2 d.3 in
      let inner = typed_fine body (Some d.1 ∷ labels) d.0 d.1 (block_results fr.spaces n ∷ ls) (block_results fr.spaces n) Stop (code.End ∷ spell ts rest) d.4.4 m.1 (arities_more labels ls d.1 (block_results fr.spaces n) a (omega arith)) (omega arith) in
      let outer = typed_fine ts labels (d.1 ++ d.2) after ls ends behind rest d.5 (needs_behind c body (code.End ∷ spell ts rest) m.1).1 a f in (
        b.there,
        omega arith,
        subst (λ k. Fine w fr (block_results fr.spaces n ∷ ls) k (block_results fr.spaces n) (seq body Stop)) (omega arith) inner,
        subst (λ k. Fine w fr ls k ends (seq ts behind)) (omega (arith, length-append d.1 d.2)) outer,
      )
  typed_fine (Cons (Loop n body) ts) labels before after ls ends behind rest d m a f =
      let b = block_is c fr.spaces n d.4.0 suits.types d.4.1 in
      let params = b.params in let results = b.results in
      let takes = ap length d.4.2 ∙ length_operands d.4.0.params in let leaves = ap length d.4.3 ∙ length_operands d.4.0.results in
      let long = split before d.0 d.2 d.3 in
      let inner = typed_fine body (Some d.0 ∷ labels) d.0 d.1 (block_params fr.spaces n ∷ ls) (block_results fr.spaces n) Stop (code.End ∷ spell ts rest) d.4.4 m.1 (arities_more labels ls d.0 (block_params fr.spaces n) a (omega arith)) (omega arith) in
      let outer = typed_fine ts labels (d.1 ++ d.2) after ls ends behind rest d.5 (needs_behind c body (code.End ∷ spell ts rest) m.1).1 a f in (
        b.there,
        omega arith,
        subst (λ k. Fine w fr (block_params fr.spaces n ∷ ls) k (block_results fr.spaces n) (seq body Stop)) (omega arith) inner,
        subst (λ k. Fine w fr ls k ends (seq ts behind)) (omega (arith, length-append d.1 d.2)) outer,
      )
  typed_fine (Cons (If n body) ts) labels before after ls ends behind rest d m a f =
      let b = block_is c fr.spaces n d.4.0 suits.types d.4.1 in
      let params = b.params in let results = b.results in
      let count = length_operands d.4.0.params in let count' = length_operands d.4.0.results in
      let takes = ap length d.4.2 in let leaves = ap length d.4.3 in let equal = ap length d.4.4 in
      let long = split before d.0 d.2 d.3 in
      let inner = typed_fine body (Some d.1 ∷ labels) (operands d.4.0.params) d.1 (block_results fr.spaces n ∷ ls) (block_results fr.spaces n) Stop (code.End ∷ spell ts rest) d.4.5 m.1 (arities_more labels ls d.1 (block_results fr.spaces n) a (omega arith)) (omega arith) in
      let outer = typed_fine ts labels (d.1 ++ d.2) after ls ends behind rest d.5 (needs_behind c body (code.End ∷ spell ts rest) m.1).1 a f in (
        b.there,
        omega arith,
        subst (λ k. Fine w fr (block_results fr.spaces n ∷ ls) k (block_results fr.spaces n) (seq body Stop)) (omega arith) inner,
        omega arith,
        subst (λ k. Fine w fr ls k ends (seq ts behind)) (omega (arith, length-append d.1 d.2)) outer,
      )
  typed_fine (Cons (IfElse n body other) ts) labels before after ls ends behind rest d m a f =
      let b = block_is c fr.spaces n d.4.0 suits.types d.4.1 in
      let params = b.params in let results = b.results in
      let count = length_operands d.4.0.params in let count' = length_operands d.4.0.results in
      let takes = ap length d.4.2 in let leaves = ap length d.4.3 in
      let long = split before d.0 d.2 d.3 in
      let from_else = (needs_behind c body (code.Else ∷ spell other (code.End ∷ spell ts rest)) m.1).1 in
      let arities = arities_more labels ls d.1 (block_results fr.spaces n) a (omega arith) in
      let one = typed_fine body (Some d.1 ∷ labels) (operands d.4.0.params) d.1 (block_results fr.spaces n ∷ ls) (block_results fr.spaces n) Stop (code.Else ∷ spell other (code.End ∷ spell ts rest)) d.4.4 m.1 arities (omega arith) in
      let two = typed_fine other (Some d.1 ∷ labels) (operands d.4.0.params) d.1 (block_results fr.spaces n ∷ ls) (block_results fr.spaces n) Stop (code.End ∷ spell ts rest) d.4.5 from_else arities (omega arith) in
      let outer = typed_fine ts labels (d.1 ++ d.2) after ls ends behind rest d.5 (needs_behind c other (code.End ∷ spell ts rest) from_else).1 a f in (
        b.there,
        omega arith,
        subst (λ k. Fine w fr (block_results fr.spaces n ∷ ls) k (block_results fr.spaces n) (seq body Stop)) (omega arith) one,
        subst (λ k. Fine w fr (block_results fr.spaces n ∷ ls) k (block_results fr.spaces n) (seq other Stop)) (omega arith) two,
        subst (λ k. Fine w fr ls k ends (seq ts behind)) (omega (arith, length-append d.1 d.2)) outer,
      )

no_labels : HasArities [] []
no_labels k to e = absurd (cc)

-- a valid body is fine
pub body_fine : BodiesAreFine
body_fine c w fr results body suits is v m =
    let labels = outermost_arities c.results results is in
    let fine = typed_fine c w fr suits v.trees (outermost c.results ∷ []) [] (operands c.due) (length results ∷ []) (length c.due) Stop (code.End ∷ []) v.typed
    (subst (EachNeeds c) v.spelled (needs c 1 body m)) labels (length_operands c.due) in
    subst (Fine w fr (length results ∷ []) 0 (length c.due)) (sym (valid_tree c body v)) fine
  where
    outermost_arities : (o : Option (List CoreType)) (ts : List CoreType) → o ≡ Some ts → HasArities (outermost o ∷ []) (length ts ∷ [])
    outermost_arities None ts e = absurd (cc)
    outermost_arities (Some us) ts e = arities_more [] [] (operands us) (length ts) no_labels (let same : us ≡ ts = cc in sym (length_operands us ∙ ap length same))
