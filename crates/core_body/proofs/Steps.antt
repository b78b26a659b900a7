-- A step of the machine keeps what is left of a derivation.
use Rattle.std.proofs.Common.{◌≡◌, refl, sym, ◌∙◌, ap, subst, Option, Some, None, List, [], ◌∷◌, ◌++◌, Bool, true, false, cond, inl, inr, ◌&&◌, append-nil, append_assoc, slice_get}
use Rattle.core_body.specs.declared.operand.Operand.{Operand}
use Rattle.core_body.specs.declared.operand.Operand.TheVariants.{Any, Known}
use Rattle.virt_base.specs.declared.core_type.CoreType.{CoreType}
use Rattle.virt_base.specs.declared.core_type.CoreType.TheVariants.{I32, I64, Funcref, Externref}
use Rattle.wasm_ast.specs.declared.module.CoreFunc.{CoreFunc}
use Rattle.wasm_ast.specs.declared.instr.Instr.{Instr}
use Rattle.wasm_ast.specs.declared.instr.Instr.TheVariants as code
use Rattle.wasm_ast.specs.declared.instr.BlockType.{BlockType}
use Rattle.core_body.specs.Context.{Context, block_type, function_type}
use Rattle.core_body.specs.Shapes.{Shape, Missing, Fixed, AnyOperand, TwoNumbers, OneReference, shape, select_shape, call_shape, indirect_shape}
use Rattle.core_body.specs.Typing.{Labels, label_at, operands, Tree, Trees, Leaf, Block, Loop, If, IfElse, Nil, Cons, spell, Below, AllBelow, Typed, TypedOne, Types, HasShape, IsNumber, IsReference}
use Rattle.core_body.specs.Machine.{Level, Running, Stuck, labels_of, step, step_else, pops, leave, with_stack, apply, Goes, Dies, Refused, top, second, third, known_of, is_number, reference_of, of_reference, of_shape, of_label, of_return, use_of, enter, is_done, none_left, needs_none, may_end, each_takes, like, under, of_table}
use Rattle.core_body.proofs.Fits.{Fit, Fit-below, Fit-refl, Fit-dead, AllBelow-refl, AllBelow-of_fit, Below-refl, nil-of_fit, pops-of_fit, fit-of_pops, fit-push, push-split, same_list-is, same_list-refl, each_takes-is, each_takes-yes, table-fit}
use Rattle.core_body.proofs.Opens.{Typed-below, NoElse, After, Remains, Opens, Rest, remains, remains-ends}

module _ (c : Context) where
  -- the level with another stack
  abbrev holding : Level → List Operand → Level
  holding l os = record l { stack = os }

  abbrev dying : Level → Level
  dying l = record l { dead = true; stack = [] }

  -- an instruction that goes on
  pub goes-sound : (outer : List Level) (l : Level) (i : Instr) (is : List Instr) (ps rs : List Operand) → Types c (labels_of (l ∷ outer)) i ps rs →
      (r : Option (List Operand)) → pops l.dead l.stack ps ≡ r → Opens c (with_stack r (λ os. Running (record l { stack = rs ++ os }) outer)) is → Remains c outer l (i ∷ is)
  goes-sound outer l i is ps rs types None e h = absurd h
  goes-sound outer l i is ps rs types (Some os) e h =
      let d = remains-ends c outer (record l { stack = rs ++ os }) is h in
      let s = push-split l.dead rs os d.0 d.3 in
      remains c outer l (i ∷ is) (
        ps ++ s.0,
        Cons (Leaf i) d.1,
        d.2,
        fit-of_pops l.dead l.stack ps os s.0 e s.2,
        (ps, rs, s.0, AllBelow-refl (ps ++ s.0), types, Typed-below c (labels_of (l ∷ outer)) d.1 (rs ++ s.0) d.0 l.results s.1 d.4),
        ap (λ xs. i ∷ xs) d.5,
        d.6,
      )

  dies-sound : (outer : List Level) (l : Level) (i : Instr) (is : List Instr) (ps : List Operand) → ((any rs : List Operand) → Types c (labels_of (l ∷ outer)) i (ps ++ any) rs) →
      (r : Option (List Operand)) → pops l.dead l.stack ps ≡ r → Opens c (with_stack r (λ os. Running (record l { dead = true; stack = [] }) outer)) is → Remains c outer l (i ∷ is)
  dies-sound outer l i is ps types None e h = absurd h
  dies-sound outer l i is ps types (Some os) e h =
      let d = remains-ends c outer (record l { dead = true; stack = [] }) is h in
      remains c outer l (i ∷ is) (
        ps ++ os,
        Cons (Leaf i) d.1,
        d.2,
        fit-of_pops l.dead l.stack ps os os e (Fit-refl l.dead os),
        (ps ++ os, d.0, [], rw append-nil (AllBelow-refl (ps ++ os)), types os d.0, rw append-nil d.4),
        ap (λ xs. i ∷ xs) d.5,
        d.6,
      )

  goes-complete : (outer : List Level) (l : Level) (ts : Trees) (rest : List Instr) (takes leaves ps rs fs : List Operand) →
      Fit l.dead l.stack (takes ++ fs) → AllBelow leaves rs → Typed c (labels_of (l ∷ outer)) ts (rs ++ fs) l.results → After c (labels_of outer) l (Rest c outer l.results) rest →
      Opens c (with_stack (pops l.dead l.stack takes) (λ os. Running (record l { stack = leaves ++ os }) outer)) (spell ts rest)
  goes-complete outer l ts rest takes leaves ps rs fs fit low d after =
      let p = pops-of_fit l.dead l.stack takes fs fit in
      let P : Option (List Operand) → Type 0 = λ r. Opens c (with_stack r (λ os. Running (record l { stack = leaves ++ os }) outer)) (spell ts rest) in
      subst P (sym p.1) (remains c outer (record l { stack = leaves ++ p.0 }) (spell ts rest) (rs ++ fs, ts, rest, fit-push l.dead leaves rs p.0 fs low p.2, d, refl, after))

  dies-complete : (outer : List Level) (l : Level) (ts : Trees) (rest : List Instr) (takes before fs : List Operand) →
      Fit l.dead l.stack (takes ++ fs) → Typed c (labels_of (l ∷ outer)) ts before l.results → After c (labels_of outer) l (Rest c outer l.results) rest →
      Opens c (with_stack (pops l.dead l.stack takes) (λ os. Running (record l { dead = true; stack = [] }) outer)) (spell ts rest)
  dies-complete outer l ts rest takes before fs fit d after =
      let p = pops-of_fit l.dead l.stack takes fs fit in
      let P : Option (List Operand) → Type 0 = λ r. Opens c (with_stack r (λ os. Running (record l { dead = true; stack = [] }) outer)) (spell ts rest) in
      subst P (sym p.1) (remains c outer (record l { dead = true; stack = [] }) (spell ts rest) (before, ts, rest, Fit-dead before, d, refl, after))

  -- the leaves
  top-fit : (dead : Bool) (os fs : List Operand) (o : Operand) → Fit dead os (o ∷ fs) → Fit dead os (top os ∷ fs)
  top-fit true [] fs o h = tt
  top-fit false [] fs o h = h
  top-fit dead (x ∷ os) fs o h = (Below-refl x, h.1)

  number-of : (t : CoreType) (o : Operand) → Known t ≡ o → IsNumber o → is_number (Known t) ≡ true
  number-of I32 o e n = refl
  number-of I64 o e n = refl
  number-of Funcref o e n = absurd (let P : Operand → Type 0 = λ x. IsNumber x in subst P (sym e) n)
  number-of Externref o e n = absurd (let P : Operand → Type 0 = λ x. IsNumber x in subst P (sym e) n)

  select-fit : (dead : Bool) (os fs : List Operand) (o : Operand) → IsNumber o → Fit dead os (Known I32 ∷ o ∷ o ∷ fs) →
      (is_number (known_of (second os) (third os)) ≡ true) × Fit dead os (Known I32 ∷ known_of (second os) (third os) ∷ known_of (second os) (third os) ∷ fs) × Below (known_of (second os) (third os)) o
  select-fit true [] fs o n h = (refl, tt, tt)
  select-fit false [] fs o n h = absurd h
  select-fit true (x ∷ []) fs o n h = (refl, (h.0, tt), tt)
  select-fit false (x ∷ []) fs o n h = absurd h.1
  select-fit true (x ∷ Any ∷ []) fs o n h = (refl, (h.0, (tt, tt)), tt)
  select-fit true (x ∷ Known t ∷ []) fs o n h = (number-of t o h.1.0 n, (h.0, (refl, tt)), h.1.0)
  select-fit false (x ∷ y ∷ []) fs o n h = absurd h.1.1
  select-fit dead (x ∷ Any ∷ Any ∷ os) fs o n h = (refl, (h.0, (tt, (tt, h.1.1.1))), tt)
  select-fit dead (x ∷ Any ∷ Known t ∷ os) fs o n h = (number-of t o h.1.1.0 n, (h.0, (tt, (refl, h.1.1.1))), h.1.1.0)
  select-fit dead (x ∷ Known t ∷ z ∷ os) fs o n h =
      (number-of t o h.1.0 n, (h.0, (refl, (let P : Operand → Type 0 = λ y. Below z y in subst P (sym h.1.0) h.1.1.0, h.1.1.1))), h.1.0)

  number-is : (o : Operand) → is_number o ≡ true → IsNumber o
  number-is Any e = tt
  number-is (Known I32) e = tt
  number-is (Known I64) e = tt
  number-is (Known Funcref) e = cc
  number-is (Known Externref) e = cc

  -- a reference
  reference-is : (o : Operand) (t : CoreType) → reference_of o ≡ Some t → IsReference t
  reference-is Any t e = let f : Funcref ≡ t = cc in subst IsReference f tt
  reference-is (Known I32) t e = cc
  reference-is (Known I64) t e = cc
  reference-is (Known Funcref) t e = let f : Funcref ≡ t = cc in subst IsReference f tt
  reference-is (Known Externref) t e = let f : Externref ≡ t = cc in subst IsReference f tt

  none_is : (t : CoreType) (u : CoreType) → (IsReference u → ⊥) → IsReference t → Known u ≡ Known t → ⊥
  none_is t u never is e = let f : t ≡ u = cc in never (subst IsReference f is)

  reference-fit : (dead : Bool) (os fs : List Operand) (t : CoreType) → IsReference t → Fit dead os (Known t ∷ fs) →
      (u : CoreType) × (reference_of (top os) ≡ Some u) × Fit dead os (Known u ∷ fs)
  reference-fit true [] fs t is h = (Funcref, refl, tt)
  reference-fit false [] fs t is h = absurd h
  reference-fit dead (Any ∷ os) fs t is h = (Funcref, refl, (tt, h.1))
  reference-fit dead (Known I32 ∷ os) fs t is h = absurd (none_is t I32 (λ n. n) is h.0)
  reference-fit dead (Known I64 ∷ os) fs t is h = absurd (none_is t I64 (λ n. n) is h.0)
  reference-fit dead (Known Funcref ∷ os) fs t is h = (Funcref, refl, (refl, h.1))
  reference-fit dead (Known Externref ∷ os) fs t is h = (Externref, refl, (refl, h.1))

  -- an instruction of a shape
  shape-sound : (outer : List Level) (l : Level) (i : Instr) (is : List Instr) (s : Shape) → ((ps rs : List Operand) → HasShape s ps rs → Types c (labels_of (l ∷ outer)) i ps rs) →
      Opens c (apply (of_shape l.stack s) l outer) is → Remains c outer l (i ∷ is)
  shape-sound outer l i is Missing types h = absurd h
  shape-sound outer l i is (Fixed params results) types h = goes-sound outer l i is (operands params) (operands results) (types _ _ (refl, refl)) _ refl h
  shape-sound outer l i is AnyOperand types h = goes-sound outer l i is (top l.stack ∷ []) [] (types _ _ (top l.stack, refl, refl)) _ refl h
  shape-sound outer l i is TwoNumbers types h = go (is_number (known_of (second l.stack) (third l.stack))) refl h
    where
      go : (b : Bool) → is_number (known_of (second l.stack) (third l.stack)) ≡ b →
          (let o = known_of (second l.stack) (third l.stack) in Opens c (apply (cond b (Goes (Known I32 ∷ o ∷ o ∷ []) (o ∷ [])) Refused) l outer) is) → Remains c outer l (i ∷ is)
      go true e h = goes-sound outer l i is _ _ (types _ _ (known_of (second l.stack) (third l.stack), number-is _ e, refl, refl)) _ refl h
      go false e h = absurd h
  shape-sound outer l i is OneReference types h = go (reference_of (top l.stack)) refl h
    where
      go : (r : Option CoreType) → reference_of (top l.stack) ≡ r → Opens c (apply (of_reference r) l outer) is → Remains c outer l (i ∷ is)
      go None e h = absurd h
      go (Some t) e h = goes-sound outer l i is _ _ (types _ _ (t, reference-is _ t e, refl, refl)) _ refl h

  -- an instruction that is no block
  use-sound : (outer : List Level) (l : Level) (i : Instr) (is : List Instr) → Opens c (apply (use_of c (labels_of (l ∷ outer)) l.stack i) l outer) is → Remains c outer l (i ∷ is)
  use-sound outer l (code.Plain o) is h = shape-sound outer l (code.Plain o) is (shape c o) (λ ps rs d. d) h
  use-sound outer l (code.I64Const n) is h = shape-sound outer l (code.I64Const n) is (Fixed [] (I64 ∷ [])) (λ ps rs d. d) h
  use-sound outer l (code.SelectTyped ts) is h = shape-sound outer l (code.SelectTyped ts) is (select_shape ts) (λ ps rs d. d) h
  use-sound outer l (code.Call n) is h = shape-sound outer l (code.Call n) is (call_shape (function_type c n)) (λ ps rs d. d) h
  use-sound outer l (code.CallIndirect ty table) is h =
      shape-sound outer l (code.CallIndirect ty table) is (indirect_shape (slice_get c.tables table) (slice_get c.types ty)) (λ ps rs d. d) h
  use-sound outer l (code.Br n) is h = go (label_at (labels_of (l ∷ outer)) n) refl h
    where
      go : (r : Option (List Operand)) → label_at (labels_of (l ∷ outer)) n ≡ r → Opens c (apply (of_label r (λ t. Dies t)) l outer) is → Remains c outer l (code.Br n ∷ is)
      go None e h = absurd h
      go (Some t) e h = dies-sound outer l (code.Br n) is t (λ any rs. (t, e, any, refl)) _ refl h
  use-sound outer l (code.BrIf n) is h = go (label_at (labels_of (l ∷ outer)) n) refl h
    where
      go : (r : Option (List Operand)) → label_at (labels_of (l ∷ outer)) n ≡ r → Opens c (apply (of_label r (λ t. Goes (Known I32 ∷ t) t)) l outer) is → Remains c outer l (code.BrIf n ∷ is)
      go None e h = absurd h
      go (Some t) e h = goes-sound outer l (code.BrIf n) is _ _ (t, e, refl, refl) _ refl h
  use-sound outer l code.Return is h = go c.results refl h
    where
      go : (r : Option (List CoreType)) → c.results ≡ r → Opens c (apply (of_return r) l outer) is → Remains c outer l (code.Return ∷ is)
      go None e h = absurd h
      go (Some ts) e h = dies-sound outer l code.Return is (operands ts) (λ any rs. (ts, e, any, refl)) _ refl h
  use-sound outer l code.Unreachable is h = dies-sound outer l code.Unreachable is [] (λ any rs. tt) _ refl h
  use-sound outer l (code.Block n) is h = absurd h
  use-sound outer l (code.Loop n) is h = absurd h
  use-sound outer l (code.If n) is h = absurd h
  use-sound outer l code.Else is h = absurd h
  use-sound outer l code.End is h = absurd h
  use-sound outer l (code.BrTable b) is h = found (label_at (labels_of (l ∷ outer)) b.value.default) h
    where
      go : (takes : List Operand) (t : Bool) → each_takes (labels_of (l ∷ outer)) takes (b.value.default ∷ b.value.labels) ≡ t →
          Opens c (apply (cond t (Dies (Known I32 ∷ takes)) Refused) l outer) is → Remains c outer l (code.BrTable b ∷ is)
      go takes true e h = dies-sound outer l (code.BrTable b) is (Known I32 ∷ takes) (λ any rs. (takes, any, each_takes-is (labels_of (l ∷ outer)) takes (b.value.default ∷ b.value.labels) e, refl)) _ refl h
      go takes false e h = absurd h

      found : (r : Option (List Operand)) → Opens c (apply (of_table r (labels_of (l ∷ outer)) l.stack (b.value.default ∷ b.value.labels)) l outer) is → Remains c outer l (code.BrTable b ∷ is)
      found None h = absurd h
      found (Some to) h = go (like to (under l.stack)) _ refl h

  -- an equation's other side
  pub fit-along : (dead : Bool) (os fs ps qs : List Operand) → ps ≡ qs → Fit dead os (ps ++ fs) → Fit dead os (qs ++ fs)
  fit-along dead os fs ps qs e h = let P : List Operand → Type 0 = λ l. Fit dead os (l ++ fs) in subst P e h

  below-along : (xs ys : List Operand) → ys ≡ xs → AllBelow xs ys
  below-along xs ys e = let P : List Operand → Type 0 = λ l. AllBelow xs l in subst P (sym e) (AllBelow-refl xs)

  shape-complete : (outer : List Level) (l : Level) (s : Shape) (ts : Trees) (rest : List Instr) (ps rs fs : List Operand) →
      HasShape s ps rs → Fit l.dead l.stack (ps ++ fs) → Typed c (labels_of (l ∷ outer)) ts (rs ++ fs) l.results →
      After c (labels_of outer) l (Rest c outer l.results) rest → Opens c (apply (of_shape l.stack s) l outer) (spell ts rest)
  shape-complete outer l Missing ts rest ps rs fs d fit typed after = absurd d
  shape-complete outer l (Fixed params results) ts rest ps rs fs d fit typed after =
      goes-complete outer l ts rest (operands params) (operands results) ps rs fs (fit-along l.dead l.stack fs ps _ d.0 fit) (below-along _ rs d.1) typed after
  shape-complete outer l AnyOperand ts rest ps rs fs d fit typed after =
      goes-complete outer l ts rest (top l.stack ∷ []) [] ps rs fs (top-fit l.dead l.stack fs d.0 (fit-along l.dead l.stack fs ps _ d.1 fit)) (below-along _ rs d.2) typed after
  shape-complete outer l TwoNumbers ts rest ps rs fs d fit typed after =
      let s = select-fit l.dead l.stack fs d.0 d.1 (fit-along l.dead l.stack fs ps _ d.2 fit) in
      let o = known_of (second l.stack) (third l.stack) in
      let P : Bool → Type 0 = λ b. Opens c (apply (cond b (Goes (Known I32 ∷ o ∷ o ∷ []) (o ∷ [])) Refused) l outer) (spell ts rest) in
      let Q : List Operand → Type 0 = λ r. AllBelow (o ∷ []) r in
      subst P (sym s.0) (goes-complete outer l ts rest (Known I32 ∷ o ∷ o ∷ []) (o ∷ []) ps rs fs s.1 (subst Q (sym d.3) (s.2, tt)) typed after)
  shape-complete outer l OneReference ts rest ps rs fs d fit typed after =
      let s = reference-fit l.dead l.stack fs d.0 d.1 (fit-along l.dead l.stack fs ps _ d.2 fit) in
      let P : Option CoreType → Type 0 = λ r. Opens c (apply (of_reference r) l outer) (spell ts rest) in
      subst P (sym s.1) (goes-complete outer l ts rest (Known s.0 ∷ []) (Known I32 ∷ []) ps rs fs s.2 (below-along _ rs d.3) typed after)

  pub use-complete : (outer : List Level) (l : Level) (i : Instr) (ts : Trees) (rest : List Instr) (ps rs fs : List Operand) →
      Types c (labels_of (l ∷ outer)) i ps rs → Fit l.dead l.stack (ps ++ fs) → Typed c (labels_of (l ∷ outer)) ts (rs ++ fs) l.results →
      After c (labels_of outer) l (Rest c outer l.results) rest → Opens c (apply (use_of c (labels_of (l ∷ outer)) l.stack i) l outer) (spell ts rest)
  use-complete outer l (code.Plain o) ts rest ps rs fs d fit typed after = shape-complete outer l (shape c o) ts rest ps rs fs d fit typed after
  use-complete outer l (code.I64Const n) ts rest ps rs fs d fit typed after = shape-complete outer l (Fixed [] (I64 ∷ [])) ts rest ps rs fs d fit typed after
  use-complete outer l (code.SelectTyped us) ts rest ps rs fs d fit typed after = shape-complete outer l (select_shape us) ts rest ps rs fs d fit typed after
  use-complete outer l (code.Call n) ts rest ps rs fs d fit typed after = shape-complete outer l (call_shape (function_type c n)) ts rest ps rs fs d fit typed after
  use-complete outer l (code.CallIndirect ty table) ts rest ps rs fs d fit typed after =
      shape-complete outer l (indirect_shape (slice_get c.tables table) (slice_get c.types ty)) ts rest ps rs fs d fit typed after
  use-complete outer l (code.Br n) ts rest ps rs fs d fit typed after =
      let P : Option (List Operand) → Type 0 = λ r. Opens c (apply (of_label r (λ t. Dies t)) l outer) (spell ts rest) in
      let split : ps ++ fs ≡ d.0 ++ (d.2 ++ fs) = ap (λ x. x ++ fs) d.3 ∙ append_assoc d.0 d.2 fs in
      let Q : List Operand → Type 0 = λ x. Fit l.dead l.stack x in
      subst P (sym d.1) (dies-complete outer l ts rest d.0 (rs ++ fs) (d.2 ++ fs) (subst Q split fit) typed after)
  use-complete outer l (code.BrIf n) ts rest ps rs fs d fit typed after =
      let P : Option (List Operand) → Type 0 = λ r. Opens c (apply (of_label r (λ t. Goes (Known I32 ∷ t) t)) l outer) (spell ts rest) in
      subst P (sym d.1) (goes-complete outer l ts rest (Known I32 ∷ d.0) d.0 ps rs fs (fit-along l.dead l.stack fs ps _ d.2 fit) (below-along _ rs d.3) typed after)
  use-complete outer l code.Return ts rest ps rs fs d fit typed after =
      let split : ps ++ fs ≡ operands d.0 ++ (d.2 ++ fs) = ap (λ x. x ++ fs) d.3 ∙ append_assoc (operands d.0) d.2 fs in
      let Q : List Operand → Type 0 = λ x. Fit l.dead l.stack x in
      let P : Option (List CoreType) → Type 0 = λ r. Opens c (apply (of_return r) l outer) (spell ts rest) in
      subst P (sym d.1) (dies-complete outer l ts rest (operands d.0) (rs ++ fs) (d.2 ++ fs) (subst Q split fit) typed after)
  use-complete outer l code.Unreachable ts rest ps rs fs d fit typed after =
      dies-complete outer l ts rest [] (rs ++ fs) (ps ++ fs) fit typed after
  use-complete outer l (code.Block n) ts rest ps rs fs d fit typed after = absurd d
  use-complete outer l (code.Loop n) ts rest ps rs fs d fit typed after = absurd d
  use-complete outer l (code.If n) ts rest ps rs fs d fit typed after = absurd d
  use-complete outer l code.Else ts rest ps rs fs d fit typed after = absurd d
  use-complete outer l code.End ts rest ps rs fs d fit typed after = absurd d
  use-complete outer l (code.BrTable b) ts rest ps rs fs d fit typed after =
      let labels = labels_of (l ∷ outer) in
      let to = d.2.0.0 in
      let split : ps ++ fs ≡ Known I32 ∷ d.0 ++ (d.1 ++ fs) = ap (λ x. x ++ fs) d.3 ∙ ap (λ x. Known I32 ∷ x) (append_assoc d.0 d.1 fs) in
      let Q : List Operand → Type 0 = λ x. Fit l.dead l.stack x in
      let t = table-fit l.dead d.0 to l.stack (d.1 ++ fs) d.2.0.2 (subst Q split fit) in
      let P : Option (List Operand) → Type 0 = λ r. Opens c (apply (of_table r labels l.stack (b.value.default ∷ b.value.labels)) l outer) (spell ts rest) in
      let B : Bool → Type 0 = λ t. Opens c (apply (cond t (Dies (Known I32 ∷ like to (under l.stack))) Refused) l outer) (spell ts rest) in
      subst P (sym d.2.0.1) (subst B (sym (each_takes-yes labels (like to (under l.stack)) d.0 (b.value.default ∷ b.value.labels) t.1 d.2))
      (dies-complete outer l ts rest (Known I32 ∷ like to (under l.stack)) (rs ++ fs) (d.1 ++ fs) t.0 typed after))

  abbrev pub plain_level : List Operand → Option (List Operand) → List Operand → Option (List Operand) → Level
  plain_level ps label rs other = record { dead = false; stack = ps; label = label; results = rs; other = other }

  -- a level that can have no else ends here
  end-only : (outer : List Level) (inner : Level) (K : List Instr → Type 0) (labels : Labels) (rest : List Instr) → inner.other ≡ None → After c labels inner K rest →
      (more : List Instr) × (rest ≡ code.End ∷ more) × K more
  end-only outer inner K labels rest none (inl a) = (a.0, a.1, a.3)
  end-only outer inner K labels rest none (inr a) = absurd (let never : None ≡ Some a.0 = sym none ∙ a.3 in cc)

  -- a block or a loop, whose branches want `label`
  block-sound : (outer : List Level) (l : Level) (i : Instr) (is : List Instr) (tree : Trees → Tree) (ps rs : List Operand) (label : Option (List Operand)) →
      ((body ts : Trees) (rest : List Instr) → i ∷ spell body (code.End ∷ spell ts rest) ≡ spell (Cons (tree body) ts) rest) →
      ((body : Trees) → Typed c (label ∷ labels_of (l ∷ outer)) body ps rs → TypedOne c (labels_of (l ∷ outer)) (tree body) ps rs) →
      (r : Option (List Operand)) → pops l.dead l.stack ps ≡ r →
      Opens c (with_stack r (λ os. Running (plain_level ps label rs None) (record l { stack = os } ∷ outer))) is → Remains c outer l (i ∷ is)
  block-sound outer l i is tree ps rs label spells types None e h = absurd h
  block-sound outer l i is tree ps rs label spells types (Some os) e h =
      let K : List Instr → Type 0 = λ more. Remains c outer (record l { stack = rs ++ os }) more in
      let a = end-only outer (plain_level ps label rs None) K (labels_of (l ∷ outer)) h.2 refl h.6 in
      let d = remains-ends c outer (record l { stack = rs ++ os }) a.0 a.2 in
      let s = push-split l.dead rs os d.0 d.3 in
      remains c outer l (i ∷ is) (
        ps ++ s.0,
        Cons (tree h.1) d.1,
        d.2,
        fit-of_pops l.dead l.stack ps os s.0 e s.2,
        (
          ps,
          rs,
          s.0,
          AllBelow-refl (ps ++ s.0),
          types h.1 (Typed-below c (label ∷ labels_of (l ∷ outer)) h.1 ps h.0 rs (AllBelow-of_fit ps h.0 h.3) h.4),
          Typed-below c (labels_of (l ∷ outer)) d.1 (rs ++ s.0) d.0 l.results s.1 d.4,
        ),
        ap (λ xs. i ∷ xs) (h.5 ∙ ap (λ r. spell h.1 r) (a.1 ∙ ap (λ r. code.End ∷ r) d.5)) ∙ spells h.1 d.1 d.2,
        d.6,
      )

  pub block-complete : (outer : List Level) (l : Level) (ts : Trees) (rest : List Instr) (ps rs : List Operand) (label : Option (List Operand)) (fs : List Operand) (body : Trees) →
      Typed c (label ∷ labels_of (l ∷ outer)) body ps rs → Fit l.dead l.stack (ps ++ fs) → Typed c (labels_of (l ∷ outer)) ts (rs ++ fs) l.results →
      After c (labels_of outer) l (Rest c outer l.results) rest →
      Opens c (with_stack (pops l.dead l.stack ps) (λ os. Running (plain_level ps label rs None) (record l { stack = os } ∷ outer))) (spell body (code.End ∷ spell ts rest))
  block-complete outer l ts rest ps rs label fs body inner fit typed after =
      let p = pops-of_fit l.dead l.stack ps fs fit in
      let Q : Option (List Operand) → Type 0 = λ r. Opens c (with_stack r (λ os. Running (plain_level ps label rs None) (record l { stack = os } ∷ outer))) (spell body (code.End ∷ spell ts rest)) in
      let behind : Remains c outer (record l { stack = rs ++ p.0 }) (spell ts rest) =
      remains c outer (record l { stack = rs ++ p.0 }) (spell ts rest) (rs ++ fs, ts, rest, fit-push l.dead rs rs p.0 fs (AllBelow-refl rs) p.2, typed, refl, after) in
      subst Q (sym p.1) (ps, body, code.End ∷ spell ts rest, Fit-refl false ps, inner, refl, inl (spell ts rest, refl, tt, behind))

  if-after : (outer : List Level) (l : Level) (n : BlockType) (is : List Instr) (f : CoreFunc) → block_type c n ≡ Some f →
      (os : List Operand) → pops l.dead l.stack (Known I32 ∷ operands f.params) ≡ Some os → (before : List Operand) (then : Trees) (rest : List Instr) →
      Fit false (operands f.params) before → Typed c (Some (operands f.results) ∷ labels_of (l ∷ outer)) then before (operands f.results) → is ≡ spell then rest →
      After c (labels_of (l ∷ outer)) (plain_level (operands f.params) (Some (operands f.results)) (operands f.results) (Some (operands f.params)))
      (λ more. Remains c outer (record l { stack = operands f.results ++ os }) more) rest → Remains c outer l (code.If n ∷ is)
  if-after outer l n is f found os e before then rest fit typed same (inl a) =
      let ps = operands f.params in
      let rs = operands f.results in
      let inner = Typed-below c (Some rs ∷ labels_of (l ∷ outer)) then ps before rs (AllBelow-of_fit ps before fit) typed in
      let d = remains-ends c outer (record l { stack = rs ++ os }) a.0 a.3 in
      let s = push-split l.dead rs os d.0 d.3 in
      remains c outer l (code.If n ∷ is) (
        Known I32 ∷ ps ++ s.0,
        Cons (If n then) d.1,
        d.2,
        fit-of_pops l.dead l.stack (Known I32 ∷ ps) os s.0 e s.2,
        (
          Known I32 ∷ ps,
          rs,
          s.0,
          AllBelow-refl (Known I32 ∷ ps ++ s.0),
          (f, found, refl, refl, a.2, inner),
          Typed-below c (labels_of (l ∷ outer)) d.1 (rs ++ s.0) d.0 l.results s.1 d.4,
        ),
        ap (λ xs. code.If n ∷ xs) (same ∙ ap (λ r. spell then r) (a.1 ∙ ap (λ r. code.End ∷ r) d.5)),
        d.6,
      )
  if-after outer l n is f found os e before then rest fit typed same (inr a) =
      let ps = operands f.params in
      let rs = operands f.results in
      let inner = Typed-below c (Some rs ∷ labels_of (l ∷ outer)) then ps before rs (AllBelow-of_fit ps before fit) typed in
      let d = remains-ends c outer (record l { stack = rs ++ os }) a.2 a.6 in
      let s = push-split l.dead rs os d.0 d.3 in
      let is_ps : ps ≡ a.0 = let e2 = a.3 in cc in
      let T : List Operand → Type 0 = λ x. Typed c (Some rs ∷ labels_of (l ∷ outer)) a.1 x rs in
      remains c outer l (code.If n ∷ is) (
        Known I32 ∷ ps ++ s.0,
        Cons (IfElse n then a.1) d.1,
        d.2,
        fit-of_pops l.dead l.stack (Known I32 ∷ ps) os s.0 e s.2,
        (
          Known I32 ∷ ps,
          rs,
          s.0,
          AllBelow-refl (Known I32 ∷ ps ++ s.0),
          (f, found, refl, refl, inner, subst T (sym is_ps) a.5),
          Typed-below c (labels_of (l ∷ outer)) d.1 (rs ++ s.0) d.0 l.results s.1 d.4,
        ),
        ap (λ xs. code.If n ∷ xs) (same ∙ ap (λ r. spell then r) (a.4 ∙ ap (λ r. code.Else ∷ spell a.1 (code.End ∷ r)) d.5)),
        d.6,
      )

  if-sound : (outer : List Level) (l : Level) (n : BlockType) (is : List Instr) (f : CoreFunc) → block_type c n ≡ Some f →
      (r : Option (List Operand)) → pops l.dead l.stack (Known I32 ∷ operands f.params) ≡ r →
      Opens c (with_stack r (λ os. Running (plain_level (operands f.params) (Some (operands f.results)) (operands f.results) (Some (operands f.params))) (record l { stack = os } ∷ outer))) is →
      Remains c outer l (code.If n ∷ is)
  if-sound outer l n is f found None e h = absurd h
  if-sound outer l n is f found (Some os) e h =
      if-after outer l n is f found os e h.0 h.1 h.2 h.3 h.4 h.5 h.6

  -- the first branch of an if: `rest` is its End, or its Else with what follows
  pub if-complete : (outer : List Level) (l : Level) (then : Trees) (rest : List Instr) (ps rs fs before : List Operand) →
      Typed c (Some rs ∷ labels_of (l ∷ outer)) then ps rs → Fit l.dead l.stack (Known I32 ∷ ps ++ fs) →
      ((os : List Operand) → Fit l.dead os fs → After c (labels_of (l ∷ outer)) (plain_level ps (Some rs) rs (Some ps)) (λ more. Remains c outer (record l { stack = rs ++ os }) more) rest) →
      Opens c (with_stack (pops l.dead l.stack (Known I32 ∷ ps)) (λ os. Running (plain_level ps (Some rs) rs (Some ps)) (record l { stack = os } ∷ outer))) (spell then rest)
  if-complete outer l then rest ps rs fs before inner fit after =
      let p = pops-of_fit l.dead l.stack (Known I32 ∷ ps) fs fit in
      let Q : Option (List Operand) → Type 0 = λ r. Opens c (with_stack r (λ os. Running (plain_level ps (Some rs) rs (Some ps)) (record l { stack = os } ∷ outer))) (spell then rest) in
      subst Q (sym p.1) (ps, then, rest, Fit-refl false ps, inner, refl, after p.0 p.2)

  pub behind : (outer : List Level) (l : Level) (ts : Trees) (rest : List Instr) (rs fs os : List Operand) → Fit l.dead os fs → Typed c (labels_of (l ∷ outer)) ts (rs ++ fs) l.results →
      After c (labels_of outer) l (Rest c outer l.results) rest → Remains c outer (record l { stack = rs ++ os }) (spell ts rest)
  behind outer l ts rest rs fs os fit typed after =
      remains c outer (record l { stack = rs ++ os }) (spell ts rest) (rs ++ fs, ts, rest, fit-push l.dead rs rs os fs (AllBelow-refl rs) fit, typed, refl, after)

  -- the end of a level
  pub done-of_fit : (l : Level) (before : List Operand) → Fit l.dead l.stack before → AllBelow before l.results → is_done l ≡ true
  done-of_fit l before fit low =
      let Q : List Operand → Type 0 = λ x. Fit l.dead l.stack x in
      let p = pops-of_fit l.dead l.stack l.results [] (subst Q (sym (append-nil l.results)) (Fit-below l.dead l.stack before l.results fit low)) in
      ap none_left (p.1 ∙ ap (λ x. Some x) (nil-of_fit l.dead p.0 p.2))

  fit-of_done : (l : Level) (r : Option (List Operand)) → pops l.dead l.stack l.results ≡ r → none_left r ≡ true → Fit l.dead l.stack l.results
  fit-of_done l None e h = cc
  fit-of_done l (Some (o ∷ os)) e h = cc
  fit-of_done l (Some []) e h =
      let Q : List Operand → Type 0 = λ x. Fit l.dead l.stack x in
      subst Q (append-nil l.results) (fit-of_pops l.dead l.stack l.results [] [] e tt)

  no_else-of_test : (other : Option (List Operand)) (rs : List Operand) → needs_none other rs ≡ true → NoElse other rs
  no_else-of_test None rs e = tt
  no_else-of_test (Some ps) rs e = same_list-is ps rs e

  pub test-of_no_else : (other : Option (List Operand)) (rs : List Operand) → NoElse other rs → needs_none other rs ≡ true
  test-of_no_else None rs h = refl
  test-of_no_else (Some ps) rs h = let P : List Operand → Type 0 = λ x. needs_none (Some ps) x ≡ true in subst P h (same_list-refl ps)

  end-sound : (outer : List Level) (l : Level) (is : List Instr) (a b : Bool) → is_done l ≡ a → may_end l ≡ b →
      Opens c (cond (a && b) (leave l.results outer) Stuck) is → Remains c outer l (code.End ∷ is)
  end-sound outer l is false b e f h = absurd h
  end-sound outer l is true false e f h = absurd h
  end-sound outer l is true true e f h =
      remains c outer l (code.End ∷ is)
      (l.results, Nil, code.End ∷ is, fit-of_done l _ refl e, AllBelow-refl l.results, refl, inl (is, refl, no_else-of_test l.other l.results f, h))

  else-sound : (outer : List Level) (l : Level) (is : List Instr) (ps : List Operand) → l.other ≡ Some ps → (a : Bool) → is_done l ≡ a →
      Opens c (cond a (Running (record l { dead = false; stack = ps; other = None }) outer) Stuck) is → Remains c outer l (code.Else ∷ is)
  else-sound outer l is ps e false f h = absurd h
  else-sound outer l is ps e true f h =
      let d = remains-ends c outer (record l { dead = false; stack = ps; other = None }) is h in
      let a = end-only outer (record l { dead = false; stack = ps; other = None }) (Rest c outer l.results) (labels_of outer) d.2 refl d.6 in
      remains c outer l (code.Else ∷ is) (
        l.results,
        Nil,
        code.Else ∷ is,
        fit-of_done l _ refl f,
        AllBelow-refl l.results,
        refl,
        inr (
          ps,
          d.1,
          a.0,
          e,
          ap (λ xs. code.Else ∷ xs) (d.5 ∙ ap (λ r. spell d.1 r) a.1),
          Typed-below c (l.label ∷ labels_of outer) d.1 ps d.0 l.results (AllBelow-of_fit ps d.0 d.3) d.4,
          a.2,
        ),
      )

  pub step-sound : (outer : List Level) (l : Level) (i : Instr) (is : List Instr) → Opens c (step c l outer i) is → Remains c outer l (i ∷ is)
  step-sound outer l (code.Block n) is h = go (block_type c n) refl h
    where
      go : (r : Option CoreFunc) → block_type c n ≡ r → Opens c (enter r l outer [] (λ ps rs. plain_level ps (Some rs) rs None)) is → Remains c outer l (code.Block n ∷ is)
      go None e h = absurd h
      go (Some f) e h = block-sound outer l (code.Block n) is (Block n) (operands f.params) (operands f.results) (Some (operands f.results))
          (λ body ts rest. refl) (λ body d. (f, e, refl, refl, d)) _ refl h
  step-sound outer l (code.Loop n) is h = go (block_type c n) refl h
    where
      go : (r : Option CoreFunc) → block_type c n ≡ r → Opens c (enter r l outer [] (λ ps rs. plain_level ps (Some ps) rs None)) is → Remains c outer l (code.Loop n ∷ is)
      go None e h = absurd h
      go (Some f) e h = block-sound outer l (code.Loop n) is (Loop n) (operands f.params) (operands f.results) (Some (operands f.params))
          (λ body ts rest. refl) (λ body d. (f, e, refl, refl, d)) _ refl h
  step-sound outer l (code.If n) is h = go (block_type c n) refl h
    where
      go : (r : Option CoreFunc) → block_type c n ≡ r → Opens c (enter r l outer (Known I32 ∷ []) (λ ps rs. plain_level ps (Some rs) rs (Some ps))) is → Remains c outer l (code.If n ∷ is)
      go None e h = absurd h
      go (Some f) e h = if-sound outer l n is f e _ refl h
  step-sound outer l code.Else is h = go l.other refl h
    where
      go : (r : Option (List Operand)) → l.other ≡ r → Opens c (step_else l outer r) is → Remains c outer l (code.Else ∷ is)
      go None e h = absurd h
      go (Some ps) e h = else-sound outer l is ps e _ refl h
  step-sound outer l code.End is h = end-sound outer l is _ _ refl refl h
  step-sound outer l (code.Plain o) is h = use-sound outer l (code.Plain o) is h
  step-sound outer l (code.I64Const n) is h = use-sound outer l (code.I64Const n) is h
  step-sound outer l (code.SelectTyped ts) is h = use-sound outer l (code.SelectTyped ts) is h
  step-sound outer l code.Unreachable is h = use-sound outer l code.Unreachable is h
  step-sound outer l (code.Br n) is h = use-sound outer l (code.Br n) is h
  step-sound outer l (code.BrIf n) is h = use-sound outer l (code.BrIf n) is h
  step-sound outer l (code.BrTable b) is h = use-sound outer l (code.BrTable b) is h
  step-sound outer l code.Return is h = use-sound outer l code.Return is h
  step-sound outer l (code.Call n) is h = use-sound outer l (code.Call n) is h
  step-sound outer l (code.CallIndirect ty table) is h = use-sound outer l (code.CallIndirect ty table) is h
