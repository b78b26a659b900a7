-- A derivation of what is left allows the machine's step.
use Rattle.std.proofs.Common.{◌≡◌, refl, sym, ◌∙◌, ap, subst, Option, Some, None, List, [], ◌∷◌, ◌++◌, Bool, false, cond, inl, inr, ◌&&◌, ◌↔◌}
use Rattle.core_body.specs.declared.operand.Operand.{Operand}
use Rattle.core_body.specs.declared.operand.Operand.TheVariants.{Known}
use Rattle.virt_base.specs.declared.core_type.CoreType.TheVariants.{I32}
use Rattle.wasm_ast.specs.declared.module.CoreFunc.{CoreFunc}
use Rattle.wasm_ast.specs.declared.instr.Instr.{Instr}
use Rattle.wasm_ast.specs.declared.instr.Instr.TheVariants as code
use Rattle.core_body.specs.Context.{Context}
use Rattle.core_body.specs.Typing.{operands, outermost, Trees, Leaf, Block, Loop, If, IfElse, Nil, Cons, spell, Typed, Types, IsValidBody}
use Rattle.core_body.specs.Machine.{Level, State, Running, Finished, Stuck, labels_of, step, step_else, leave, apply, use_of, enter, may_end, run, start}
use Rattle.core_body.proofs.Fits.{Fit, Fit-below, Fit-refl, AllBelow-of_fit}
use Rattle.core_body.proofs.Opens.{After, Remains, Opens, Rest, remains, remains-ends, Typed-below}
use Rattle.core_body.proofs.Steps.{plain_level, use-complete, block-complete, if-complete, behind, done-of_fit, test-of_no_else, fit-along, step-sound}

module _ (c : Context) where
  abbrev OpensNext : List Level → Level → List Instr → Type 0
  OpensNext outer l [] = ⊥
  OpensNext outer l (i ∷ is) = Opens c (step c l outer i) is

  leaf-step : (outer : List Level) (l : Level) (i : Instr) (is : List Instr) (ps rs : List Operand) → Types c (labels_of (l ∷ outer)) i ps rs →
      Opens c (apply (use_of c (labels_of (l ∷ outer)) l.stack i) l outer) is → Opens c (step c l outer i) is
  leaf-step outer l (code.Block n) is ps rs t h = absurd t
  leaf-step outer l (code.Loop n) is ps rs t h = absurd t
  leaf-step outer l (code.If n) is ps rs t h = absurd t
  leaf-step outer l code.Else is ps rs t h = absurd t
  leaf-step outer l code.End is ps rs t h = absurd t
  leaf-step outer l _ is ps rs t h = h

  -- a sequence's first instruction
  opens-next : (outer : List Level) (l : Level) (before : List Operand) (trees : Trees) (rest : List Instr) → Fit l.dead l.stack before →
      Typed c (l.label ∷ labels_of outer) trees before l.results → After c (labels_of outer) l (Rest c outer l.results) rest → OpensNext outer l (spell trees rest)
  opens-next outer l before Nil rest fit d (inl a) =
      let P : List Instr → Type 0 = λ xs. OpensNext outer l xs in
      let Q : Bool → Type 0 = λ b. Opens c (cond (b && may_end l) (leave l.results outer) Stuck) a.0 in
      let R : Bool → Type 0 = λ b. Opens c (cond b (leave l.results outer) Stuck) a.0 in
      subst P (sym a.1) (subst Q (sym (done-of_fit c l before fit d)) (subst R (sym (test-of_no_else c l.other l.results a.2)) a.3))
  opens-next outer l before Nil rest fit d (inr a) =
      let P : List Instr → Type 0 = λ xs. OpensNext outer l xs in
      let is = spell a.1 (code.End ∷ a.2) in
      let E : Option (List Operand) → Type 0 = λ r. Opens c (step_else l outer r) is in
      let Q : Bool → Type 0 = λ b. Opens c (cond b (Running (record l { dead = false; stack = a.0; other = None }) outer) Stuck) is in
      subst P (sym a.4) (subst E (sym a.3) (subst Q (sym (done-of_fit c l before fit d))
      (remains c outer (record l { dead = false; stack = a.0; other = None }) is (a.0, a.1, code.End ∷ a.2, Fit-refl false a.0, a.5, refl, inl (a.2, refl, tt, a.6)))))
  opens-next outer l before (Cons (Leaf i) ts) rest fit d after =
      leaf-step outer l i (spell ts rest) d.0 d.1 d.4 (use-complete c outer l i ts rest d.0 d.1 d.2 d.4 (Fit-below l.dead l.stack before _ fit d.3) d.5 after)
  opens-next outer l before (Cons (Block n body) ts) rest fit d after =
      let one = d.4 in
      let ps = operands one.0.params in
      let rs = operands one.0.results in
      let P : Option CoreFunc → Type 0 = λ r. Opens c (enter r l outer [] (λ xs ys. plain_level c xs (Some ys) ys None)) (spell body (code.End ∷ spell ts rest)) in
      let B : List Operand → Type 0 = λ x. Typed c (Some rs ∷ labels_of (l ∷ outer)) body x rs in
      let C : List Operand → Type 0 = λ r. Typed c (Some r ∷ labels_of (l ∷ outer)) body d.0 r in
      let T : List Operand → Type 0 = λ r. Typed c (labels_of (l ∷ outer)) ts (r ++ d.2) l.results in
      subst P (sym one.1) (block-complete c outer l ts rest ps rs (Some rs) d.2 body (subst B one.2 (subst C one.3 one.4))
      (fit-along c l.dead l.stack d.2 d.0 ps one.2 (Fit-below l.dead l.stack before _ fit d.3)) (subst T one.3 d.5) after)
  opens-next outer l before (Cons (Loop n body) ts) rest fit d after =
      let one = d.4 in
      let ps = operands one.0.params in
      let rs = operands one.0.results in
      let P : Option CoreFunc → Type 0 = λ r. Opens c (enter r l outer [] (λ xs ys. plain_level c xs (Some xs) ys None)) (spell body (code.End ∷ spell ts rest)) in
      let B : List Operand → Type 0 = λ x. Typed c (Some x ∷ labels_of (l ∷ outer)) body x rs in
      let C : List Operand → Type 0 = λ r. Typed c (Some d.0 ∷ labels_of (l ∷ outer)) body d.0 r in
      let T : List Operand → Type 0 = λ r. Typed c (labels_of (l ∷ outer)) ts (r ++ d.2) l.results in
      subst P (sym one.1) (block-complete c outer l ts rest ps rs (Some ps) d.2 body (subst B one.2 (subst C one.3 one.4))
      (fit-along c l.dead l.stack d.2 d.0 ps one.2 (Fit-below l.dead l.stack before _ fit d.3)) (subst T one.3 d.5) after)
  opens-next outer l before (Cons (If n then) ts) rest fit d after =
      let one = d.4 in
      let ps = operands one.0.params in
      let rs = operands one.0.results in
      let P : Option CoreFunc → Type 0 = λ r. Opens c (enter r l outer (Known I32 ∷ []) (λ xs ys. plain_level c xs (Some ys) ys (Some xs))) (spell then (code.End ∷ spell ts rest)) in
      let C : List Operand → Type 0 = λ r. Typed c (Some r ∷ labels_of (l ∷ outer)) then ps r in
      let T : List Operand → Type 0 = λ r. Typed c (labels_of (l ∷ outer)) ts (r ++ d.2) l.results in
      subst P (sym one.1) (if-complete c outer l then (code.End ∷ spell ts rest) ps rs d.2 before (subst C one.3 one.5)
      (fit-along c l.dead l.stack d.2 d.0 (Known I32 ∷ ps) one.2 (Fit-below l.dead l.stack before _ fit d.3))
      (λ os fits. inl (spell ts rest, refl, one.4, behind c outer l ts rest rs d.2 os fits (subst T one.3 d.5) after)))
  opens-next outer l before (Cons (IfElse n then else) ts) rest fit d after =
      let one = d.4 in
      let ps = operands one.0.params in
      let rs = operands one.0.results in
      let P : Option CoreFunc → Type 0 = λ r. Opens c (enter r l outer (Known I32 ∷ []) (λ xs ys. plain_level c xs (Some ys) ys (Some xs))) (spell then (code.Else ∷ spell else (code.End ∷ spell ts rest))) in
      let C : List Operand → Type 0 = λ r. Typed c (Some r ∷ labels_of (l ∷ outer)) then ps r in
      let E : List Operand → Type 0 = λ r. Typed c (Some r ∷ labels_of (l ∷ outer)) else ps r in
      let T : List Operand → Type 0 = λ r. Typed c (labels_of (l ∷ outer)) ts (r ++ d.2) l.results in
      subst P (sym one.1) (if-complete c outer l then (code.Else ∷ spell else (code.End ∷ spell ts rest)) ps rs d.2 before (subst C one.3 one.4)
      (fit-along c l.dead l.stack d.2 d.0 (Known I32 ∷ ps) one.2 (Fit-below l.dead l.stack before _ fit d.3))
      (λ os fits. inr (ps, else, spell ts rest, refl, refl, subst E one.3 one.5, behind c outer l ts rest rs d.2 os fits (subst T one.3 d.5) after)))

  pub step-complete : (outer : List Level) (l : Level) (i : Instr) (is : List Instr) → Remains c outer l (i ∷ is) → Opens c (step c l outer i) is
  step-complete outer l i is h =
      let d = remains-ends c outer l (i ∷ is) h in
      let P : List Instr → Type 0 = λ xs. OpensNext outer l xs in
      subst P (sym d.5) (opens-next outer l d.0 d.1 d.2 d.3 d.4 d.6)

  -- a level that is open has an instruction left
  not_over : (outer : List Level) (l : Level) → Remains c outer l [] → ⊥
  not_over outer l h =
      let d = remains-ends c outer l [] h in
      let P : List Instr → Type 0 = λ xs. OpensNext outer l xs in
      subst P (sym d.5) (opens-next outer l d.0 d.1 d.2 d.3 d.4 d.6)

  pub run-complete : (s : State) (is : List Instr) → Opens c s is → run c s is ≡ Finished
  run-complete (Running l outer) [] h = absurd (not_over outer l h)
  run-complete Finished [] h = refl
  run-complete Stuck [] h = absurd h
  run-complete (Running l outer) (i ∷ is) h = run-complete (step c l outer i) is (step-complete outer l i is h)
  run-complete Finished (i ∷ is) h = cc
  run-complete Stuck (i ∷ is) h = absurd h

  pub run-sound : (s : State) (is : List Instr) → run c s is ≡ Finished → Opens c s is
  run-sound (Running l outer) [] h = cc
  run-sound Finished [] h = refl
  run-sound Stuck [] h = cc
  run-sound (Running l outer) (i ∷ is) h = step-sound c outer l i is (run-sound (step c l outer i) is h)
  run-sound Finished (i ∷ is) h = absurd (run-sound Stuck is h)
  run-sound Stuck (i ∷ is) h = run-sound Stuck is h

  -- the machine accepts just the code that has a derivation
  pub accepts-typed : (body : List Instr) → (run c (start c) body ≡ Finished) ↔ IsValidBody c body
  accepts-typed body = (λ e. typed_of (run-sound (start c) body e), λ d. run-complete (start c) body (opens_of d))
    where
      ended : (rest : List Instr) (l : Level) → l.other ≡ None → After c [] l (λ more. more ≡ []) rest → rest ≡ code.End ∷ []
      ended rest l none (inl a) = a.1 ∙ ap (λ r. code.End ∷ r) a.3
      ended rest l none (inr a) = absurd (let never : None ≡ Some a.0 = sym none ∙ a.3 in cc)

      typed_of : Opens c (start c) body → IsValidBody c body
      typed_of h = record {
        trees = h.1;
        spelled = h.5 ∙ ap (λ r. spell h.1 r) (ended h.2 (plain_level c [] (outermost c.results) (operands c.due) None) refl h.6);
        typed = Typed-below c (outermost c.results ∷ []) h.1 [] h.0 (operands c.due) (AllBelow-of_fit [] h.0 h.3) h.4;
      }

      opens_of : IsValidBody c body → Opens c (start c) body
      opens_of d = ([], d.trees, code.End ∷ [], tt, d.typed, d.spelled, inl ([], refl, tt, refl))
