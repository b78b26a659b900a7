-- The least rule that fails is the one that the code finds.
use Rattle.std.proofs.Common.{◌≡◌, ℕ, ◌<◌, ◌≤◌, refl, sym, ◌∙◌, ap, subst, min, Option, Some, None, List, [], ◌∷◌, ◌++◌, Bool, true, false, cond, inl, inr, arith, ◌↔◌}
use Rattle.std.proofs.lemmas.Bool.{cases_lt}
use Rattle.wasm_ast.specs.declared.module.Module.{Module}
use Rattle.wasm_ast.specs.declared.instr.Instr.{Instr}
use Rattle.core_body.specs.Context.{Context}
use Rattle.core_body.specs.Conditions.{Condition, rule_of, is_met, lesser, broken, least, code_conditions}
use Rattle.core_body.specs.Faults.{accepts, with_types, code_fault, first_labels}
use Rattle.core_body.specs.Machine.{State, Running, Finished, Stuck, is_finished, run, start}
use Rattle.core_body.specs.Typing.{IsValidBody}
use Rattle.core_body.proofs.Complete.{accepts-typed}
use Rattle.core_validate.specs.Spaces.{context}
use Rattle.core_validate.specs.Items.{Item, Part, item_conditions, parts, fits, items}
use Rattle.core_validate.specs.Faults.{part_fault, parts_fault, fit_fault, fault, or_else, first_fault}
use Rattle.core_validate.specs.Validity.{AreMet, PartHolds, PartsHold, Holds, AllHold, IsLeastFailing, IsValidModule, Breaks}

-- two families of facts, and the lesser of their rules
both-fail : (P Q : ℕ → Type 0) (a b : Option ℕ) → IsLeastFailing P a → IsLeastFailing Q b → IsLeastFailing (λ r. P r × Q r) (lesser a b)
both-fail P Q None None p q = λ r. (p r, q r)
both-fail P Q (Some a) None p q = (λ h. p.0 h.0, λ less lt. (p.1 less lt, q less))
both-fail P Q None (Some b) p q = (λ h. q.0 h.1, λ less lt. (p less, q.1 less lt))
both-fail P Q (Some a) (Some b) p q = elim (cases_lt a b) [
  | inl lt ↦ (let e : a ≡ min a b = omega arith in
      let R : ℕ → Type 0 = λ n. IsLeastFailing (λ r. P r × Q r) (Some n) in
      subst R e (λ h. p.0 h.0, λ less l. (p.1 less l, q.1 less (omega arith))))
  | inr le ↦ (let e : b ≡ min a b = omega arith in
      let R : ℕ → Type 0 = λ n. IsLeastFailing (λ r. P r × Q r) (Some n) in
      subst R e (λ h. q.0 h.1, λ less l. (p.1 less (omega arith), q.1 less l)))
]

-- a fact of one rule, by a test
one-fails : (rule : ℕ) (T : Type 0) (b : Bool) → (b ≡ true → T) → (T → b ≡ true) → IsLeastFailing (λ r. rule ≡ r → T) (cond b None (Some rule))
one-fails rule T true holds_if test_if = λ r e. holds_if refl
one-fails rule T false holds_if test_if = (λ h. let never : false ≡ true = test_if (h refl) in cc, λ less lt e. absurd (omega arith))

conditions-fail : (c : Context) (conds : List Condition) → IsLeastFailing (λ r. AreMet c r conds) (least c conds)
conditions-fail c [] = λ r. tt
conditions-fail c (a ∷ conds) =
    both-fail (λ r. rule_of a ≡ r → is_met c a ≡ true) (λ r. AreMet c r conds) (broken c a) (least c conds)
    (one-fails (rule_of a) (is_met c a ≡ true) (is_met c a) (λ e. e) (λ e. e)) (conditions-fail c conds)

is-finished : (s : State) → is_finished s ≡ true → s ≡ Finished
is-finished (Running l outer) e = cc
is-finished Finished e = refl
is-finished Stuck e = cc

accepts-is : (c : Context) (is : List Instr) → (accepts c is ≡ true → IsValidBody c is) × (IsValidBody c is → accepts c is ≡ true)
accepts-is c is = (λ e. (accepts-typed c is).0 (is-finished (run c (start c) is) e), λ d. ap is_finished ((accepts-typed c is).1 d))

-- the order of an equation
turned : (P : ℕ → Type 0) (rule : ℕ) (T : Type 0) (o : Option ℕ) → IsLeastFailing (λ r. P r × (rule ≡ r → T)) o → IsLeastFailing (λ r. P r × (r ≡ rule → T)) o
turned P rule T None h = λ r. ((h r).0, λ e. (h r).1 (sym e))
turned P rule T (Some n) h = (λ k. h.0 (k.0, λ e. k.1 (sym e)), λ less lt. ((h.1 less lt).0, λ e. (h.1 less lt).1 (sym e)))

with_types-cond : (o : Option ℕ) (b : Bool) → with_types o b ≡ lesser o (cond b None (Some 7))
with_types-cond o true = refl
with_types-cond o false = refl

part-fails : (p : Part) → IsLeastFailing (λ r. PartHolds r p) (part_fault p)
part-fails p =
    let conds = code_conditions p.in_body (first_labels p.in_body) p.code in
    let t = accepts-is p.context p.code in
    let R : Option ℕ → Type 0 = λ o. IsLeastFailing (λ r. PartHolds r p) o in
    subst R (sym (with_types-cond (least p.context conds) (accepts p.context p.code)))
    (turned (λ r. AreMet p.context r conds) 7 (IsValidBody p.context p.code) (lesser (least p.context conds) (cond (accepts p.context p.code) None (Some 7)))
    (both-fail (λ r. AreMet p.context r conds) (λ r. 7 ≡ r → IsValidBody p.context p.code) (least p.context conds) (cond (accepts p.context p.code) None (Some 7))
    (conditions-fail p.context conds) (one-fails 7 (IsValidBody p.context p.code) (accepts p.context p.code) t.0 t.1)))

parts-fail : (ps : List Part) → IsLeastFailing (λ r. PartsHold r ps) (parts_fault ps)
parts-fail [] = λ r. tt
parts-fail (p ∷ ps) = both-fail (λ r. PartHolds r p) (λ r. PartsHold r ps) (part_fault p) (parts_fault ps) (part-fails p) (parts-fail ps)

fit-fails : (b : Bool) → IsLeastFailing (λ r. r ≡ 7 → b ≡ true) (fit_fault b)
fit-fails true = λ r e. refl
fit-fails false = (λ h. let never : false ≡ true = h refl in cc, λ less lt e. absurd (omega arith))

-- three families
three-of : (P Q R : ℕ → Type 0) (o : Option ℕ) → IsLeastFailing (λ r. P r × (Q r × R r)) o → IsLeastFailing (λ r. P r × Q r × R r) o
three-of P Q R None h = λ r. ((h r).0, (h r).1.0, (h r).1.1)
three-of P Q R (Some n) h = (λ k. h.0 (k.0, (k.1, k.2)), λ less lt. ((h.1 less lt).0, (h.1 less lt).1.0, (h.1 less lt).1.1))

pub fault-fails : (c : Context) (item : Item) → IsLeastFailing (Holds c item) (fault c item)
fault-fails c item =
    three-of (λ r. AreMet c r (item_conditions item)) (λ r. r ≡ 7 → fits c item ≡ true) (λ r. PartsHold r (parts c item)) (fault c item)
    (both-fail (λ r. AreMet c r (item_conditions item)) (λ r. (r ≡ 7 → fits c item ≡ true) × PartsHold r (parts c item)) (least c (item_conditions item))
    (lesser (fit_fault (fits c item)) (parts_fault (parts c item))) (conditions-fail c (item_conditions item))
    (both-fail (λ r. r ≡ 7 → fits c item ≡ true) (λ r. PartsHold r (parts c item)) (fit_fault (fits c item)) (parts_fault (parts c item))
    (fit-fails (fits c item)) (parts-fail (parts c item))))

-- the first item of which a rule fails
abbrev FirstBroken : Context → List Item → ℕ → Type 0
FirstBroken c xs rule =
    (before : List Item) × (item : Item) × (after : List Item) × (xs ≡ before ++ item ∷ after) × AllHold c before × IsLeastFailing (Holds c item) (Some rule)

first-none : (c : Context) (xs : List Item) → None ≡ first_fault c xs → AllHold c xs
first-none c [] e = tt
first-none c (x ∷ xs) e = go (fault c x) (fault-fails c x) e (λ e'. first-none c xs e')
  where
    go : (o : Option ℕ) → IsLeastFailing (Holds c x) o → None ≡ or_else o (first_fault c xs) → (None ≡ first_fault c xs → AllHold c xs) → AllHold c (x ∷ xs)
    go None h e more = (h, more e)
    go (Some n) h e more = cc

first-some : (c : Context) (xs : List Item) (rule : ℕ) → Some rule ≡ first_fault c xs → FirstBroken c xs rule
first-some c [] rule e = cc
first-some c (x ∷ xs) rule e = go (fault c x) (fault-fails c x) e (λ e'. first-some c xs rule e')
  where
    go : (o : Option ℕ) → IsLeastFailing (Holds c x) o → Some rule ≡ or_else o (first_fault c xs) → (Some rule ≡ first_fault c xs → FirstBroken c xs rule) → FirstBroken c (x ∷ xs) rule
    go None h e more =
        let f = more e in
        (x ∷ f.0, f.1, f.2, ap (λ l. x ∷ l) f.3, (h, f.4), f.5)
    go (Some n) h e more =
        let same : n ≡ rule = cc in
        let P : ℕ → Type 0 = λ r. IsLeastFailing (Holds c x) (Some r) in
        ([], x, xs, refl, tt, subst P same h)

pub valid-from_none : (m : Module) → None ≡ first_fault (context m) (items m) → IsValidModule m
valid-from_none m e = first-none (context m) (items m) e

pub breaks-from_some : (m : Module) (rule : ℕ) → Some rule ≡ first_fault (context m) (items m) → Breaks m rule
breaks-from_some m rule e =
    let f = first-some (context m) (items m) rule e in
    record { before = f.0; item = f.1; after = f.2; order = f.3; kept = f.4; broken = f.5 }
