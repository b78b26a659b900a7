-- What is asked in each number of steps is asked in turn.
use Rattle.std.proofs.Common.{◌≡◌, ◌∙◌, refl, sym, ap, subst, ℕ, ◌+◌, ◌≤◌, List, [], ◌∷◌, ◌++◌, Option, Some, None, append_assoc, append-nil, add_comm, add-zero}
use Rattle.std.proofs.lemmas.List.{same_from_push}
use Rattle.core_store.specs.declared.value.CoreValue.{CoreValue}
use Rattle.core_store.specs.Config.{Reply, Outcome, Asks}
use Rattle.core_store.specs.Eval.{eval}
use Rattle.core_store.specs.State.{State}
use Rattle.core_store.specs.Scene.{CameBack}
use Rattle.core_store.specs.Laws.{Further, Within, Answers, StoreIs}
use Rattle.core_store.proofs.Further.{further}
use Rattle.core_store.proofs.Steps.{within as within_steps}
use Rattle.core_store.proofs.Stores.{back_self, stores_back}
use Rattle.handle_space.specs.HandleMap.{HandleMap, Answered}
use Rattle.adapter_code.specs.declared.state.Effect.{Effect}
use Rattle.adapter_code.specs.declared.state.Effect.TheVariants.{Made, Dropped}
use Rattle.adapter_compile.specs.Handles.{Numbers, question, answer, Grants, Follows}
use Rattle.adapter_calls.specs.Turns.{AsksInTurn}

-- ---- questions

asked : Numbers → Effect → ℕ
asked numbers (Made kind rep index) = numbers.makes kind
asked numbers (Dropped kind rep index) = numbers.drops kind

abbrev store_in : Outcome → State → State
store_in (Asks number args t left) s = t
store_in _ s = s

same_store : (numbers : Numbers) (e : Effect) (t u : State) (m n : ℕ) → question numbers e t m ≡ question numbers e u n → t ≡ u
same_store numbers (Made kind rep index) t u m n is = ap (λ (o : Outcome). store_in o t) is
same_store numbers (Dropped kind rep index) t u m n is = ap (λ (o : Outcome). store_in o t) is

more_steps : (numbers : Numbers) (e : Effect) (t : State) (left d : ℕ) (o o' : Outcome) → o ≡ question numbers e t left → Further d o o' → o' ≡ question numbers e t (d + left)
more_steps numbers (Made kind rep index) t left d o o' is more = subst (λ (x : Outcome). Further d x o') is more
more_steps numbers (Dropped kind rep index) t left d o o' is more = subst (λ (x : Outcome). Further d x o') is more

within : (numbers : Numbers) (e : Effect) (t : State) (left n : ℕ) (o : Outcome) → o ≡ question numbers e t left → Within n o → left ≤ n
within numbers (Made kind rep index) t left n o is w = subst (Within n) is w
within numbers (Dropped kind rep index) t left n o is w = subst (Within n) is w

abbrev map_in : {A : Type 0} → Option (Answered ℕ A) → HandleMap ℕ → HandleMap ℕ
map_in None h = h
map_in (Some a) h = a.map

one_map : {A : Type 0} → (o : Option (Answered ℕ A)) (a b : A) (g h : HandleMap ℕ) → o ≡ Some (record { answer = a; map = g }) → o ≡ Some (record { answer = b; map = h }) → g ≡ h
one_map o a b g h is is' = ap (λ x. map_in x g) (sym is ∙ is')

same_map : (h : HandleMap ℕ) (e : Effect) (g g' : HandleMap ℕ) → Grants h e g → Grants h e g' → g ≡ g'
same_map h (Made kind rep index) g g' x y = one_map _ index index g g' x y
same_map h (Dropped kind rep index) g g' x y = one_map _ rep rep g g' x y

-- ---- stores of the questions

last_of : (x : Reply) (xs : List Reply) → (front : List Reply) × (y : Reply) × (x ∷ xs ≡ front ++ y ∷ [])
last_of x [] = ([], x, refl)
last_of x (y ∷ ys) = let r = last_of y ys in (x ∷ r.0, r.1, ap (λ (z : List Reply). x ∷ z) r.2)

module _ (X : List Reply → Outcome) (used : List Reply) (r : Reply) (so_far : Answers CameBack X used) (back : (number : ℕ) (args : List CoreValue) (s : State) (left : ℕ) → X used ≡ Asks number args s left → CameBack s r.store) where
  each_more : (before after : List Reply) (q : Reply) (number : ℕ) (args : List CoreValue) (s : State) (left : ℕ) → used ++ r ∷ [] ≡ before ++ q ∷ after → X before ≡ Asks number args s left → CameBack s q.store
  each_more before [] q number args s left is asks =
      let two = same_from_push used before r q is in
      subst (λ (z : Reply). CameBack s z.store) two.1 (back number args s left (ap X two.0 ∙ asks))
  each_more before (a ∷ after) q number args s left is asks =
      let l = last_of a after in
      let parts : used ++ r ∷ [] ≡ (before ++ q ∷ l.0) ++ l.1 ∷ [] = is ∙ ap (λ (z : List Reply). before ++ q ∷ z) l.2 ∙ sym (append_assoc before (q ∷ l.0) (l.1 ∷ [])) in
      so_far.each before l.0 q number args s left (same_from_push used (before ++ q ∷ l.0) r l.1 parts).0 asks

  answers_more : Answers CameBack X (used ++ r ∷ [])
  answers_more = record { each = each_more }

none_answered : (X : List Reply → Outcome) → Answers CameBack X []
none_answered X = record { each = λ before after q number args s left is asks. absurd (no_reply before q after is) }
  where
    no_reply : (before : List Reply) (q : Reply) (after : List Reply) → [] ≡ before ++ q ∷ after → ⊥
    no_reply [] q after is = cc
    no_reply (b ∷ before) q after is = cc

deepest_of : (s : State) (numbers : Numbers) (e : Effect) (t : State) (left : ℕ) (o : Outcome) → s.deepest ≡ None → o ≡ question numbers e t left → StoreIs s o → t.deepest ≡ None
deepest_of s numbers (Made kind rep index) t left o none is grew = let g = subst (StoreIs s) is grew in sym g.deepest ∙ none
deepest_of s numbers (Dropped kind rep index) t left o none is grew = let g = subst (StoreIs s) is grew in sym g.deepest ∙ none

same_question : (numbers : Numbers) (e : Effect) (t : State) (left : ℕ) (o : Outcome) (number : ℕ) (args : List CoreValue) (s : State) (more : ℕ) → o ≡ question numbers e t left → o ≡ Asks number args s more → s ≡ t
same_question numbers (Made kind rep index) t left o number args s more is asks = ap (λ (x : Outcome). store_in x s) (sym asks ∙ is)
same_question numbers (Dropped kind rep index) t left o number args s more is asks = ap (λ (x : Outcome). store_in x s) (sym asks ∙ is)

answer_store : (e : Effect) (t : State) → (answer e t).store ≡ t
answer_store (Made kind rep index) t = refl
answer_store (Dropped kind rep index) t = refl

-- ---- the evaluation, some of whose questions were answered

module _ (numbers : Numbers) (s : State) (f : ℕ) (args : List CoreValue) (start : ℕ) (none : s.deepest ≡ None) (within_all : (replies : List Reply) (n : ℕ) → Within n (eval s f args replies n)) (stores : (replies : List Reply) (n : ℕ) → Answers CameBack (λ used. eval s f args used n) replies → StoreIs s (eval s f args replies n)) where
  abbrev X : List Reply → List Reply → ℕ → Outcome
  X used replies n = eval s f args (used ++ replies) n

  abbrev All : List Effect → (used : List Reply) → HandleMap ℕ → (ℕ → (List Reply → Outcome) → HandleMap ℕ → Type 0) → Type 0
  All es used h P = (n : ℕ) → Follows numbers Outcome (λ o. o) (λ replies. X used replies (start + n)) h es (P n)

  abbrev Kept : List Reply → Type 0
  Kept used = (n : ℕ) → Answers CameBack (λ z. eval s f args z (start + n)) used

  in_turn : (es : List Effect) (used : List Reply) (h : HandleMap ℕ) (P : ℕ → (List Reply → Outcome) → HandleMap ℕ → Type 0) → Kept used → All es used h P →
      AsksInTurn numbers start (X used) h es (λ Y h'. (n : ℕ) → P n (λ replies. Y replies (start + n)) h')
  in_turn [] used h P kept all = all
  in_turn (e ∷ es) used h P kept all =
      let first = all 0 in
      let t : State = first.0 in
      let left : ℕ = first.1 in
      let h' : HandleMap ℕ = first.2 in
      let none_more : used ++ [] ≡ used = append-nil used in
      let asks : (n : ℕ) → X used [] (start + n) ≡ question numbers e t (left + n) =
      λ n. ap (X used []) (add_comm start n ∙ ap (λ k. n + k) (sym (add-zero start))) ∙ more_steps numbers e t left n (X used [] (start + 0)) (X used [] (n + (start + 0))) first.3 (further s f args (used ++ []) (start + 0) n) ∙ ap (question numbers e t) (add_comm n left) in
      let le : left ≤ start = subst (λ k. left ≤ k) (add-zero start) (within numbers e t left (start + 0) (X used [] (start + 0)) first.3 (within_all (used ++ []) (start + 0))) in
      let same_t : (n : ℕ) → (all n).0 ≡ t = λ n. same_store numbers e (all n).0 t (all n).1 (left + n) (sym (all n).3 ∙ asks n) in
      let same_h : (n : ℕ) → (all n).2 ≡ h' = λ n. same_map h e (all n).2 h' (all n).4 first.4 in
      let r : Reply = answer e t in
      let kept_more : Kept (used ++ r ∷ []) =
      λ n. answers_more (λ z. eval s f args z (start + n)) used r (kept n)
      (λ number values u more is. subst (CameBack u) (same_question numbers e t (left + n) (eval s f args used (start + n)) number values u more (ap (λ z. eval s f args z (start + n)) (sym none_more) ∙ asks n) is ∙ sym (answer_store e t)) (back_self u)) in
      let longer : (z : List Reply) → used ++ r ∷ z ≡ (used ++ r ∷ []) ++ z = λ z. sym (append_assoc used (r ∷ []) z) in
      let same_run : ((z : List Reply) → used ++ r ∷ z ≡ (used ++ r ∷ []) ++ z) → (λ (z : List Reply) (n : ℕ). eval s f args (used ++ r ∷ z) n) ≡ X (used ++ r ∷ []) = λ same i z n. eval s f args (same z i) n in
      let rest : All es (used ++ r ∷ []) h' P =
      λ n. subst (λ (g : HandleMap ℕ). Follows numbers Outcome (λ o. o) (λ replies. X (used ++ r ∷ []) replies (start + n)) g es (P n)) (same_h n)
      (subst (λ (Y : List Reply → Outcome). Follows numbers Outcome (λ o. o) Y (all n).2 es (P n)) (λ i replies. eval s f args (longer replies i) (start + n))
      (subst (λ (u : State). Follows numbers Outcome (λ o. o) (λ replies. X used (answer e u ∷ replies) (start + n)) (all n).2 es (P n)) (same_t n) (all n).5)) in
      let deep : t.deepest ≡ None = deepest_of s numbers e t left (eval s f args used (start + 0)) none (ap (λ z. eval s f args z (start + 0)) (sym none_more) ∙ first.3) (stores used (start + 0) (kept 0)) in (
        t,
        left,
        h',
        asks,
        le,
        deep,
        first.4,
        subst (λ (Y : List Reply → ℕ → Outcome). AsksInTurn numbers start Y h' es (λ Z g. (n : ℕ) → P n (λ replies. Z replies (start + n)) g)) (sym (same_run longer)) (in_turn es (used ++ r ∷ []) h' P kept_more rest),
      )

pub evaluation_in_turn : (numbers : Numbers) (s : State) (f : ℕ) (args : List CoreValue) (start : ℕ) (h : HandleMap ℕ) (es : List Effect) (P : ℕ → (List Reply → Outcome) → HandleMap ℕ → Type 0) → s.deepest ≡ None →
    ((n : ℕ) → Follows numbers Outcome (λ o. o) (λ replies. eval s f args replies (start + n)) h es (P n)) →
    AsksInTurn numbers start (λ replies n. eval s f args replies n) h es (λ X h'. (n : ℕ) → P n (λ replies. X replies (start + n)) h')
evaluation_in_turn numbers s f args start h es P none all =
    in_turn numbers s f args start none (λ replies n. within_steps s f args replies n) (λ replies n back. stores_back s f args replies n back) es [] h P (λ n. none_answered (λ z. eval s f args z (start + n))) all
